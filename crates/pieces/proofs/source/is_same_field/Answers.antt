use Rattle.std.proofs.Common.{◌≡◌, Bool, ap, ◌∙◌, rules}
use Rattle.sprintf.specs.declared.parser.ConversionSpecifier.{ConversionSpecifier}
use Rattle.sprintf.specs.declared.parser.ConversionType.{ConversionType}
use Rattle.sprintf.specs.declared.parser.NumericParam.{NumericParam}
use Rattle.pieces.proofs.source.is_same_field.Goals as goal

-- fields that have each part in common
same : (f g : ConversionSpecifier) → f.alt_form ≡ g.alt_form → f.zero_pad ≡ g.zero_pad → f.left_adj ≡ g.left_adj → f.space_sign ≡ g.space_sign → f.force_sign ≡ g.force_sign → f.width ≡ g.width → f.precision ≡ g.precision → f.conversion_type ≡ g.conversion_type → f ≡ g
same f g a z l s p w r t =
    ap (λ (x : Bool). record f { alt_form = x }) a
    ∙ ap (λ (x : Bool). record f { alt_form = g.alt_form; zero_pad = x }) z
    ∙ ap (λ (x : Bool). record g { left_adj = x; space_sign = f.space_sign; force_sign = f.force_sign; width = f.width; precision = f.precision; conversion_type = f.conversion_type }) l
    ∙ ap (λ (x : Bool). record g { space_sign = x; force_sign = f.force_sign; width = f.width; precision = f.precision; conversion_type = f.conversion_type }) s
    ∙ ap (λ (x : Bool). record g { force_sign = x; width = f.width; precision = f.precision; conversion_type = f.conversion_type }) p
    ∙ ap (λ (x : NumericParam). record g { width = x; precision = f.precision; conversion_type = f.conversion_type }) w
    ∙ ap (λ (x : NumericParam). record g { precision = x; conversion_type = f.conversion_type }) r
    ∙ ap (λ (x : ConversionType). record g { conversion_type = x }) t

pub returns-then-is_same_number : goal.returns-then-is_same_number
returns-then-is_same_number c = λ yes.
    let conversion : c.args.one.now.conversion_type ≡ c.args.other.now.conversion_type = search rules in
    let alternate : c.args.one.now.alt_form ≡ c.args.other.now.alt_form = search (rules, c.if-one-other.false) in
    let zeros : c.args.one.now.zero_pad ≡ c.args.other.now.zero_pad = search (rules, c.if-one-other-2.false) in
    let left : c.args.one.now.left_adj ≡ c.args.other.now.left_adj = search (rules, c.if-one-other-3.false) in
    let space : c.args.one.now.space_sign ≡ c.args.other.now.space_sign = search (rules, c.if-one-other-4.false) in
    let plus : c.args.one.now.force_sign ≡ c.args.other.now.force_sign = search (rules, c.if-one-other-5.false) in
    same c.args.one.now c.args.other.now alternate zeros left space plus (c.is_same_number.ensures (search (rules, c.if-is_same_number.true))) (c.is_same_number-then-is_same_number.ensures yes) conversion
