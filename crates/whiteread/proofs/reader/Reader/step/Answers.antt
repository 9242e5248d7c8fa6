use Rattle.std.proofs.Common.{◌≡◌, true, false, rules, sym}
use Rattle.std.proofs.lemmas.Result.{err_from_is_err_and}
use Rattle.whiteread.proofs.PassingLemmas.{passing_more, ahead_falls, line_read, looked, word_call, none_call, refused_call}
use Rattle.whiteread.proofs.reader.Reader.step.Goals as goal

pub returns-in-Some-clause-call : goal.returns-in-Some-clause-call
returns-in-Some-clause-call g c = word_call _ _ _ c.in-Some.start _ c.lines.invariant c.in-Some.ensures

pub returns-in_err-read_line-clause-call : goal.returns-in_err-read_line-clause-call
returns-in_err-read_line-clause-call g c =
    let p = err_from_is_err_and c.from_residual.result c.from_residual.ensures.1 in
    let at = looked _ _ _ _ c.lines.invariant c.in_default.ensures in
    rw (p.1, p.2) (refused_call _ _ _ _ _ at.0 at.1 c.in_err-read_line.ensures)

pub returns-then-not-branch-clause-call : goal.returns-then-not-branch-clause-call
returns-then-not-branch-clause-call g c =
    let ended : c.in_ok-read_line.field-0 ≡ false = search rules in
    let at = looked _ _ _ _ c.lines.invariant c.in_default.ensures in
    none_call _ _ _ _ at.0 at.1 (line_read _ _ _ false _ ended c.in_ok-read_line.ensures)

pub lines-smaller : goal.lines-smaller
lines-smaller g c =
    let found : c.in_ok-read_line.field-0 ≡ true = search rules in
    let falls = ahead_falls _ _ _ (line_read _ _ _ true _ found c.in_ok-read_line.ensures) in
    rw (sym c.in_default.ensures.1) falls

pub lines-preserved : goal.lines-preserved
lines-preserved g c =
    let found : c.in_ok-read_line.field-0 ≡ true = search rules in
    let at = looked _ _ _ _ c.lines.invariant c.in_default.ensures in
    passing_more _ _ _ _ at.0 at.1 (line_read _ _ _ true _ found c.in_ok-read_line.ensures)
