use Rattle.std.proofs.Common.{◌≡◌, ◌≤◌, ℕ, length, refl, sym, ◌∙◌, ap, arith, length-drop}
use Rattle.edge_io.specs.Memory.{source_rest, source_faults}
use Rattle.whiteread.specs.ReaderState.{reader_source}
use Rattle.whiteread_tests.proofs.FreshReaders.{IsFresh, fresh_words, fresh_answer}
use Rattle.whiteread_tests.proofs.agreement.read_twice.Goals as goal

pub returns : goal.returns
returns g c = λ room again_room.
    let limit : ℕ = 18446744073709551615 in
    let bytes = source_rest c.args.one in
    let few : length bytes ≤ limit = omega (arith, length-drop c.args.one.at c.args.one.bytes.items, c.args.one.bytes.ok.0, c.args.one.bytes.small) in
    let reading = g.T.FromStream.reading in
    let cheap = g.T.FromStream.REQUEST_CHEAP_ERROR in
    let first = c.new-first.ensures in
    let second = c.new-second.ensures in
    let first_still : source_faults (reader_source c.continue_-answer.new.self) ≡ 0 = ap source_faults (sym c.into_inner-one.ensures) ∙ sym c.faults.ensures ∙ omega (arith, c.if-faults-gt0.false) in
    let second_still : source_faults (reader_source c.continue_-again.new.self) ≡ 0 = ap source_faults (sym c.into_inner-other.ensures) ∙ sym c.faults-2.ensures ∙ omega (arith, c.if-faults-gt0-2.false) in
    let one : IsFresh c.args.one limit c.new-first.result =
    record { source_is = first.source; limit_is = first.limit; taken = first.taken; past = first.past; waiting = first.waiting; line = first.line; passed = first.passed; faults = first.faults } in
    let other : IsFresh c.args.other limit c.new-second.result =
    record { source_is = second.source; limit_is = second.limit; taken = second.taken; past = second.past; waiting = second.waiting; line = second.line; passed = second.passed; faults = second.faults } in
    c.continue_decided_by_words.ensures (fresh_words limit bytes) c.continue_-answer.result c.continue_-again.result
    (fresh_answer reading cheap c.args.one limit c.new-first.result c.continue_-answer.new.self bytes c.continue_-answer.result one refl few c.requires.text c.requires.one_fresh c.continue_-answer.ensures first_still)
    (fresh_answer reading cheap c.args.other limit c.new-second.result c.continue_-again.new.self bytes c.continue_-again.result other (sym c.requires.same) few c.requires.text c.requires.other_fresh c.continue_-again.ensures second_still)
    room again_room
