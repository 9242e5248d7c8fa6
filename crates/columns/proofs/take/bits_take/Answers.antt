use Rattle.std.proofs.Common.{◌≡◌, ◌-◌, subst, ap, ◌∙◌}
use Rattle.sprintf.specs.declared.parser.ConversionSpecifier.{ConversionSpecifier}
use Rattle.columns.specs.Inner.Serves.{conversion_of, Serves}
use Rattle.columns.specs.declared.take.Take.TheVariants.{Bits}
use Rattle.columns.proofs.Forms.{serves_bits}
use Rattle.columns.proofs.take.bits_take.Goals as goal

pub returns : goal.returns
returns c =
    let conversion : c.field-spec.result.now.conversion_type ≡ conversion_of c.args.notation = ap (λ (f : ConversionSpecifier). f.conversion_type) c.field-spec.ensures ∙ c.requires in
    subst (λ (f : ConversionSpecifier). Serves f c.args.kind c.args.field.now.after (Bits (record { notation = c.args.notation; prefix = c.field-spec.result.now.alt_form; width = c.saturating_sub-width.result; most = c.most_digits.result; greatest = c.in_ok-greatest.greatest; middle = c.in_ok-greatest.middle }))) c.field-spec.ensures
    (serves_bits c.numeral_of_value.ensures c.field-spec.result.now c.args.kind c.args.field.now.after c.args.notation c.in_ok-width.width c.saturating_sub-width.result c.most_digits.result c.in_ok-greatest.greatest c.in_ok-greatest.middle conversion c.in_ok-width.ensures
    (c.is_filled_by_zeros.ensures c.if-not-is_filled_by_zeros.false) (c.saturating_sub-width.ensures ∙ ap (λ k. c.in_ok-width.width - k) c.prefix_len.ensures) c.in_ok-greatest.ensures)
