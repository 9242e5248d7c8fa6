use Rattle.std.proofs.Common.{◌≡◌, ◌<◌, length, refl, subst, arith}
use Rattle.std.proofs.lemmas.Option.{slice_get_read}
use Rattle.sprintf.specs.declared.parser.ConversionSpecifier.{ConversionSpecifier}
use Rattle.pieces.specs.declared.layout.Form.{Form}
use Rattle.pieces.specs.Inner.Printf.{HasFormUnder}
use Rattle.pieces.proofs.CopiedLemmas.{stands}
use Rattle.pieces.proofs.copied.stands_in_rows.Goals as goal

pub returns-in-Some : goal.returns-in-Some
returns-in-Some c = λ yes.
    let same : c.in-Some.own ≡ c.args.form = c.is_same.ensures yes in
    let own : HasFormUnder c.field.result.now c.args.kinds.now c.args.place c.in-Some.own = c.in-Some.ensures in
    let under : HasFormUnder c.index-fields-place.result.field c.args.kinds.now c.args.place c.in-Some.own = subst (λ (f : ConversionSpecifier). HasFormUnder f c.args.kinds.now c.args.place c.in-Some.own) c.field.ensures own in
    let has : HasFormUnder c.index-fields-place.result.field c.args.kinds.now c.args.place c.args.form = subst (λ (form : Form). HasFormUnder c.index-fields-place.result.field c.args.kinds.now c.args.place form) same under in
    let below : c.args.place < length c.args.fields.now = omega (arith, c.if-place-fields.false) in
    stands c.args.fields.now c.args.kinds.now c.args.place c.args.form c.index-fields-place.result has
    (slice_get_read c.args.fields.now (length c.args.fields.now) c.args.place c.index-fields-place.result refl below c.index-fields-place.is)
