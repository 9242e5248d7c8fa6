use Rattle.std.proofs.Common.{refl, arith, ◌∙◌}
use Rattle.std.proofs.lemmas.Result.{err_from_is_err_and}
use Rattle.whiteread.proofs.AwaitLemmas.{turn_more, turn_refused, turn_end, turn_last, turn_whole}
use Rattle.whiteread.proofs.reader.Reader.await_line.Goals as goal

pub returns-in-Some : goal.returns-in-Some
returns-in-Some g c =
    turn_whole g.B.Source.supply c.args.self.now c.reads.self _ c.reads.invariant (record { stays = record { source = refl; limit = refl; taken = refl; past = refl; waiting = c.line_len.ensures.waiting; line = c.line_len.ensures.same_line; row = refl; faults = λ _. refl }; passed = refl }) c.in-Some.len c.in-Some.ensures.line.0 c.in-Some.ensures.line.1

pub returns-in_err-read_piece : goal.returns-in_err-read_piece
returns-in_err-read_piece g c =
    let p = err_from_is_err_and c.from_residual.result c.from_residual.ensures.1 in
    rw (p.1, p.2) (turn_refused g.B.Source.supply c.args.self.now c.reads.self c.in_err-read_piece.field-0.0 c.in_err-read_piece.ensures c.reads.invariant c.in_default.ensures.line (record { stays = record { source = refl; limit = refl; taken = refl; past = refl; waiting = c.line_len.ensures.waiting; line = c.line_len.ensures.same_line; row = refl; faults = λ _. refl }; passed = refl }))

pub returns-then-len-eq0 : goal.returns-then-len-eq0
returns-then-len-eq0 g c =
    turn_end g.B.Source.supply c.args.self.now c.reads.self c.in_ok-read_piece.field-0 c.in_ok-read_piece.ensures c.if-not-branch.true c.reads.invariant c.in_default.ensures.line (record { stays = record { source = refl; limit = refl; taken = refl; past = refl; waiting = c.line_len.ensures.waiting; line = c.line_len.ensures.same_line; row = refl; faults = λ _. refl }; passed = refl }) (omega (arith, c.len-len.ensures, c.if-len-eq0.true))

pub returns-then-not-branch : goal.returns-then-not-branch
returns-then-not-branch g c =
    turn_last g.B.Source.supply c.args.self.now c.reads.self c.in_ok-read_piece.field-0 c.in_ok-read_piece.ensures c.if-not-branch.true c.reads.invariant c.in_default.ensures.line (record { stays = record { source = refl; limit = refl; taken = refl; past = refl; waiting = c.line_len.ensures.waiting; line = c.line_len.ensures.same_line; row = refl; faults = λ _. refl }; passed = refl }) c.len-len.result c.len-len.ensures (omega (arith, c.if-len-eq0.false))

pub reads-preserved : goal.reads-preserved
reads-preserved g c =
    turn_more g.B.Source.supply c.args.self.now c.reads.self c.in_ok-read_piece.field-0 c.in_ok-read_piece.ensures c.if-not-branch.false c.reads.invariant c.in_default.ensures.line (record { stays = record { source = refl; limit = refl; taken = refl; past = refl; waiting = c.line_len.ensures.waiting; line = c.line_len.ensures.same_line; row = refl; faults = λ _. refl }; passed = refl })

pub read_piece-requires-clause-no_line : goal.read_piece-requires-clause-no_line
read_piece-requires-clause-no_line g c = c.line_len.ensures.same_line ∙ c.reads.invariant.kept.line ∙ c.requires
