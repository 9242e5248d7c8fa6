use Rattle.std.proofs.Common.{◌≡◌, ◌+◌, ◌-◌, ◌<◌, ◌^◌, ℕ, List, false, length, string_bytes, Result, Ok, sym, ◌∙◌, subst, arith}
use Rattle.numerals.specs.Answer.{AppendsAnswer}
use Rattle.numerals.specs.Numeral.{numeral}
use Rattle.sprintf.specs.declared.PrintfError.{PrintfError}
use Rattle.sprintf.specs.declared.PrintfError.TheVariants.{NoMemory}
use Rattle.sprintf.specs.Field.{filled_number}
use Rattle.sprintf.proofs.field.append_decimal.Goals as goal

pub returns : goal.returns
returns c =
    let fits : c.args.value < 2 ^ 64 = omega (arith, c.ranges.value.fits) in
    let same : c.format.result.now ≡ numeral 10 false c.args.value = c.format.ensures.text ∙ sym (c.numeral_is_std.ensures 10 c.args.value false (omega arith) fits) in
    subst (λ (digits : List ℕ). AppendsAnswer NoMemory (Ok (filled_number c.args.spec.now (c.args.width - (length c.args.lead.now + length digits)) c.args.lead.now digits)) (string_bytes c.args.out.now) (string_bytes c.append_filled.new.out) c.append_filled.result) same c.append_filled.ensures
