use Rattle.std.proofs.Common.{arith, sym}
use Rattle.columns.proofs.Digits.{decimal_more}
use Rattle.columns.proofs.number.with_last_digit.Goals as goal

pub returns-in_ok-longer-in-Some-48-to-57-clause-digits : goal.returns-in_ok-longer-in-Some-48-to-57-clause-digits
returns-in_ok-longer-in-Some-48-to-57-clause-digits c =
    let at = c.in-Some-48-to-57.ensures.lookup.3 in
    decimal_more c.args.text.now 19 c.args.number c.in-Some-48-to-57.byte.now _ at.0 c.requires.digits (sym (at.1 0)) (omega arith) (omega arith)
    (omega (arith, c.in_ok-longer-in-Some-48-to-57.ensures.1, c.in_ok-checked_mul-in-Some-48-to-57.ensures.1, c.from.ensures))
