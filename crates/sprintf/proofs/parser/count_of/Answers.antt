use Rattle.std.proofs.Common.{arith, ◌<◌, length, map}
use Rattle.std.proofs.lemmas.Grind.{common_steps}
use Rattle.std.specs.Char.{digit_value}
use Rattle.numerals.specs.Numeral.{AllBelow}
use Rattle.sprintf.proofs.Digits.{all_below}
use Rattle.sprintf.proofs.parser.count_of.Goals as goal

pub returns-in_err-number : goal.returns-in_err-number
returns-in_err-number c =
    let digits : AllBelow 10 (map digit_value c.args.digits.now) = all_below _ c.requires in
    let some : 0 < length c.args.digits.now = grind (arith, common_steps) in
    rw (c.from_residual.ensures) (λ few. c.in_err-number.ensures ((some, digits), omega (arith, few)))
