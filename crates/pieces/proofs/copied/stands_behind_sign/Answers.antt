use Rattle.std.proofs.Common.{◌≡◌, ◌<◌, length, refl, subst, ap, ◌∙◌, Some, arith}
use Rattle.std.proofs.lemmas.Option.{slice_get_read}
use Rattle.pieces.specs.declared.layout.Form.TheVariants.{Signed}
use Rattle.pieces.specs.Inner.Layout.{form_of}
use Rattle.pieces.specs.Inner.Printf.{IsPlusNumber}
use Rattle.pieces.proofs.CopiedLemmas.{stands_signed}
use Rattle.pieces.proofs.copied.stands_behind_sign.Goals as goal

pub returns-in-Some-Signed : goal.returns-in-Some-Signed
returns-in-Some-Signed c = λ yes.
    let has = c.in-Some-Signed.ensures.form in
    let signed : form_of has.0 ≡ Some Signed = has.2 ∙ ap Some c.in-Some-Signed.field-0-is in
    let plus : IsPlusNumber c.index-fields-place.result.field = subst IsPlusNumber c.field.ensures (c.is_plus_number.ensures yes) in
    let below : c.args.place < length c.args.fields.now = omega (arith, c.if-place-fields.false) in
    stands_signed c.args.fields.now c.args.kinds.now c.args.place has.0 c.index-fields-place.result has.1 signed plus
    (slice_get_read c.args.fields.now (length c.args.fields.now) c.args.place c.index-fields-place.result refl below c.index-fields-place.is)
