use Rattle.std.proofs.Common.{◌≡◌, true, false, rules}
use Rattle.std.proofs.lemmas.Result.{err_from_is_err_and}
use Rattle.whiteread.proofs.InLineLemmas.{over_refused, over_end, over_line}
use Rattle.whiteread.proofs.reader.Reader.read_new_line.Goals as goal

pub returns-in_err-read_line : goal.returns-in_err-read_line
returns-in_err-read_line g c =
    let p = err_from_is_err_and c.from_residual.result c.from_residual.ensures.1 in
    rw (p.1, p.2) (over_refused _ _ _ _ _ c.in_err-read_line.ensures)

pub returns-then-not-branch : goal.returns-then-not-branch
returns-then-not-branch g c =
    let ended : c.in_ok-read_line.field-0 ≡ false = search rules in
    over_end _ _ _ c.in_ok-read_line.field-0 _ ended c.in_ok-read_line.ensures

pub returns : goal.returns
returns g c =
    let found : c.in_ok-read_line.field-0 ≡ true = search rules in
    over_line _ _ _ c.in_ok-read_line.field-0 _ _ _ found c.in_ok-read_line.ensures c.read_in_line.ensures
