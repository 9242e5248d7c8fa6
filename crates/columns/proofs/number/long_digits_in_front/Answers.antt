use Rattle.std.proofs.Common.{◌≡◌, take, subst, false, arith}
use Rattle.columns.specs.Inner.Shapes.{AreDigits}
use Rattle.columns.proofs.number.long_digits_in_front.Goals as goal

pub with_last_digit-requires-clause-digits : goal.with_last_digit-requires-clause-digits
with_last_digit-requires-clause-digits c =
    let all : c.digits_in_front-number.result.1 ≡ 19 = omega arith in
    subst (λ k. AreDigits 10 false (take k c.args.text.now) c.digits_in_front-number.result.0) all c.digits_in_front-number.ensures.digits
