use Rattle.std.proofs.Common.{refl, arith}
use Rattle.std.proofs.lemmas.Int.Digits.{digits_more}
use Rattle.scan_fmt.proofs.Digits.{digits_end}
use Rattle.scan_fmt.proofs.number.digits_len.Goals as goal

pub returns-then-not-is_digit-clause-longest : goal.returns-then-not-is_digit-clause-longest
returns-then-not-is_digit-clause-longest c =
    digits_end c.args.radix c.args.bytes.now c.digits.at c.digits.invariant (λ h digit. let bad = c.if-not-is_digit.ensures.1 digit in cc)

pub digits-preserved : goal.digits-preserved
digits-preserved c = digits_more c.args.radix c.args.bytes.now c.digits.at (omega arith) c.digits.invariant (c.if-not-is_digit.ensures.0 refl)
