use Rattle.std.proofs.Common.{◌≡◌, true, false}
use Rattle.std.proofs.lemmas.Result.{err_from_is_err_and}
use Rattle.header_lines.specs.Heading.{IsSecondVersion}
use Rattle.header_lines.proofs.ClearHeadings.{refuses_first_if}
use Rattle.header_lines.proofs.heading.read_first.Goals as goal

pub returns-in_err-kinds-clause-refused : goal.returns-in_err-kinds-clause-refused
returns-in_err-kinds-clause-refused c =
    let other : ¬ IsSecondVersion c.args.line.now = λ second. (let yes : c.is_second_version.result ≡ true = c.is_second_version.ensures.1 second in let no : c.is_second_version.result ≡ false = c.if-is_second_version.false in absurd (cc)) in
    let p = err_from_is_err_and c.from_residual.result c.from_residual.ensures.1 in
    rw (p.1, p.2) (refuses_first_if c.args.number c.args.line.now c.in_err-kinds.field-0.0 other c.in_err-kinds.ensures.refused)
