use Rattle.std.proofs.Common.{refl}
use Rattle.std.proofs.lemmas.Result.{err_from_is_err_and}
use Rattle.whiteread.proofs.ReadLineLemmas.{line_refused, line_end, line_taken, line_not_taken}
use Rattle.whiteread.proofs.reader.Reader.read_line.Goals as goal

pub returns-in_err-len : goal.returns-in_err-len
returns-in_err-len g c =
    let p = err_from_is_err_and c.from_residual.result c.from_residual.ensures.1 in
    rw (p.1, p.2) (line_refused g.B.Source.supply c.args.self.now c.in_err-len.field-0.0 c.in_err-len.ensures (record { source = refl; limit = refl; taken = refl; past = refl; waiting = c.clear_line.ensures.waiting; row = refl; faults = λ _. refl; line = c.clear_line.ensures.line; passed = refl }))

pub returns-in_default : goal.returns-in_default
returns-in_default g c =
    line_end g.B.Source.supply c.args.self.now _ (rw c.in_default.is at c.in_ok-len.ensures) (record { source = refl; limit = refl; taken = refl; past = refl; waiting = c.clear_line.ensures.waiting; row = refl; faults = λ _. refl; line = c.clear_line.ensures.line; passed = refl })
    (record { source = refl; limit = refl; taken = refl; past = refl; waiting = refl; row = c.saturating_add-self.ensures; faults = λ _. refl; line = refl; passed = refl })

pub returns-in_err-take_line : goal.returns-in_err-take_line
returns-in_err-take_line g c =
    let p = err_from_is_err_and c.from_residual-in_err-take_line.result c.from_residual-in_err-take_line.ensures.1 in
    rw (p.1, p.2) (line_not_taken g.B.Source.supply c.args.self.now c.in-Some.len c.in_err-take_line.field-0.0 c.in_err-take_line.ensures (rw c.in-Some.is at c.in_ok-len.ensures) (record { source = refl; limit = refl; taken = refl; past = refl; waiting = c.clear_line.ensures.waiting; row = refl; faults = λ _. refl; line = c.clear_line.ensures.line; passed = refl }))

pub returns : goal.returns
returns g c =
    line_taken g.B.Source.supply c.args.self.now c.in-Some.len c.in_ok-take_line.field-0 c.in_ok-take_line.ensures (rw c.in-Some.is at c.in_ok-len.ensures) (record { source = refl; limit = refl; taken = refl; past = refl; waiting = c.clear_line.ensures.waiting; row = refl; faults = λ _. refl; line = c.clear_line.ensures.line; passed = refl })

pub take_line-requires-clause-first : goal.take_line-requires-clause-first
take_line-requires-clause-first g c = let call = rw c.in-Some.is at c.in_ok-len.ensures in call.outcome.1.first
