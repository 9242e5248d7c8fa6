use Rattle.std.proofs.Common.{◌≡◌, Some, ap, subst, ◌∙◌, arith}
use Rattle.sprintf.specs.declared.parser.ConversionSpecifier.{ConversionSpecifier}
use Rattle.sprintf.specs.declared.parser.ConversionType.TheVariants.{DecInt}
use Rattle.sprintf.specs.Field.{number_of}
use Rattle.columns.specs.Inner.Serves.{Serves}
use Rattle.columns.specs.declared.take.Take.TheVariants.{Integer}
use Rattle.columns.proofs.Integers.{serves_integer}
use Rattle.columns.proofs.take.signed_take.Goals as goal

pub returns : goal.returns
returns c =
    let none : c.in_ok-number_in.field-0 ≡ 0 = omega (arith, c.if-branch-ne0.false) in
    let width : number_of c.field-spec.result.now.width ≡ Some 0 = c.in_ok-number_in.ensures ∙ ap Some none in
    let decimal : c.field-spec.result.now.conversion_type ≡ DecInt = ap (λ (f : ConversionSpecifier). f.conversion_type) c.field-spec.ensures ∙ c.requires in
    subst (λ (f : ConversionSpecifier). Serves f c.args.kind c.args.field.now.after (Integer c.in_ok-greatest_signed.field-0 c.field-spec.result.now.force_sign)) c.field-spec.ensures
    (serves_integer c.numeral_of_value.ensures c.field-spec.result.now c.args.kind c.args.field.now.after c.in_ok-greatest_signed.field-0 decimal width c.if-spec.false c.in_ok-greatest_signed.ensures)
