-- The template of formatx prints what the format of printf prints.
use Rattle.std.proofs.Common.{◌≡◌, ℕ, ◌+◌, ◌<◌, ◌^◌, true, List, [], ◌∷◌, ◌++◌, length, Some, None, Ok, refl, ap, sym, ◌∙◌, subst, arith, append_assoc, length-append}
use Rattle.std.specs.Prelude.{slice_get}
use Rattle.numerals.specs.Laws.{NumeralIsStd}
use Rattle.sprintf.specs.declared.parser.ConversionSpecifier.{ConversionSpecifier}
use Rattle.sprintf.specs.declared.parser.FormatElement.TheVariants.{Format}
use Rattle.formatx.specs.Field.{field_text}
use Rattle.formatx.specs.Scene.{Scene}
use Rattle.formatx.specs.Text.{whole}
use Rattle.formatx.specs.Values.{Meaning}
use Rattle.formatx.specs.Words.{is_plain}
use Rattle.values.specs.declared.kind.Kind.{Kind}
use Rattle.values.specs.Datum.{Datum, IsOfKind, each_of}
use Rattle.values.specs.Templates.{formatx_meaning}
use Rattle.translation.specs.declared.target.Target.TheVariants.{Formatx}
use Rattle.translation.specs.Table.{translated_field, in_braces}
use Rattle.translation.specs.Inner.Options.{written}
use Rattle.translation.specs.Laws.{HasI32, IsAsciiDatum, AreAsciiOf, PrintsTheSame}
use Rattle.translation.proofs.Decimals.{writes}
use Rattle.translation.proofs.FormatxSegments.{Shows, shows_end, shows_plain, shows_open, shows_close, shows_field}
use Rattle.translation.proofs.FormatxFields.{formatx_field}
use Rattle.translation.proofs.Induction.{FieldShown, plain_front, AllAt, shown_from}

get_seam : {A : Type 0} (front : List A) (x : A) (xs : List A) → slice_get (front ++ x ∷ xs) (length front) ≡ Some x
get_seam [] x xs = refl
get_seam (y ∷ front) x xs = get_seam front x xs

-- the front of the source is longer
behind : (source front a b : List ℕ) → source ≡ front ++ (a ++ b) → source ≡ (front ++ a) ++ b
behind source front a b e = e ∙ sym (append_assoc front a b)

module _ (std : NumeralIsStd) (scene : Scene) where
  -- what stands at the end of the source, and what it prints
  abbrev G : List ℕ → List ℕ → Type 0
  G text out = (front : List ℕ) → scene.source ≡ front ++ text → Shows scene text out

  plain_in : (c : ℕ) (text out : List ℕ) → is_plain c ≡ true → G text out → G (c ∷ text) (c ∷ out)
  plain_in c text out p g = λ front e. shows_plain scene front text out c e p (g (front ++ c ∷ []) (behind scene.source front (c ∷ []) text e))

  opens_in : (text out : List ℕ) → G text out → G (123 ∷ 123 ∷ text) (123 ∷ out)
  opens_in text out g = λ front e. shows_open scene text out (g (front ++ 123 ∷ 123 ∷ []) (behind scene.source front (123 ∷ 123 ∷ []) text e))

  closes_in : (text out : List ℕ) → G text out → G (125 ∷ 125 ∷ text) (125 ∷ out)
  closes_in text out g = λ front e. shows_close scene text out (g (front ++ 125 ∷ 125 ∷ []) (behind scene.source front (125 ∷ 125 ∷ []) text e))

  -- the value stands at its position
  abbrev At : ℕ → Kind → Datum → Type 0
  At i kind value = (slice_get scene.values i ≡ Some (formatx_meaning kind value)) × (i < 2 ^ 63)

  field_in : (i : ℕ) (f : ConversionSpecifier) (kind : Kind) (value : Datum) (t text out : List ℕ) → HasI32 (Format f) → IsOfKind kind value → IsAsciiDatum value → At i kind value → translated_field Formatx i f kind ≡ Some t → G text out → FieldShown G f kind value t text out
  field_in i f kind value t text out small of_kind ascii at e g =
      let r = formatx_field std i f kind value t small of_kind ascii e in
      let hole : List ℕ = in_braces i (written Formatx r.o) in
      let shown : List ℕ = field_text (Rattle.translation.proofs.FormatxRead.spec_by r.o) (formatx_meaning kind value) r.o.width r.o.precision in
      let one : G (hole ++ text) (shown ++ out) = λ front h. shows_field scene i r.o text out (formatx_meaning kind value) r.body (writes std i at.1) r.octal at.0 (g (front ++ hole) (behind scene.source front hole text h)) in
      let all : G (r.prefix ++ (hole ++ text)) (r.prefix ++ (shown ++ out)) = plain_front G (λ front h. shows_end scene) plain_in opens_in closes_in r.prefix (hole ++ text) (shown ++ out) r.plain one in
      let joined : r.prefix ++ (hole ++ text) ≡ t ++ text = sym (ap (λ (xs : List ℕ). xs ++ text) r.text ∙ append_assoc r.prefix hole text) in
      let printed_all : G (r.prefix ++ (hole ++ text)) (r.prefix ++ shown ++ out) = subst (λ (ys : List ℕ). G (r.prefix ++ (hole ++ text)) ys) (sym (append_assoc r.prefix shown out)) all in
      record {
        shown = r.prefix ++ shown;
        printed = r.printed ∙ ap (λ (xs : List ℕ). Ok (r.prefix ++ xs)) (sym r.field);
        shows = subst (λ (xs : List ℕ). G xs (r.prefix ++ shown ++ out)) joined printed_all;
      }

  abbrev AllThere : ℕ → List Kind → List Datum → Type 0
  AllThere i kinds values = AllAt G (λ front h. shows_end scene) plain_in opens_in closes_in Formatx At field_in i kinds values

  all_there : (before : List Meaning) (i : ℕ) (kinds : List Kind) (values : List Datum) → AreAsciiOf kinds values → scene.values ≡ before ++ each_of formatx_meaning kinds values → i ≡ length before → i + length kinds < 2 ^ 63 → AllThere i kinds values
  all_there before i [] [] ascii e at few = tt
  all_there before i [] (value ∷ values) ascii e at few = tt
  all_there before i (kind ∷ kinds) [] ascii e at few = tt
  all_there before i (kind ∷ kinds) (value ∷ values) ascii e at few =
      let m : Meaning = formatx_meaning kind value in
      let ms : List Meaning = each_of formatx_meaning kinds values in (
        (rw (e, at) (get_seam before m ms), omega arith),
        all_there (before ++ m ∷ []) (i + 1) kinds values ascii.1 (e ∙ sym (append_assoc before (m ∷ []) ms)) (omega (arith, length-append before (m ∷ []))) (omega arith),
      )

-- the law
pub prints_formatx : NumeralIsStd → PrintsTheSame Formatx
prints_formatx std elements kinds values template program ascii e =
    let scene : Scene = record { source = template; values = each_of formatx_meaning kinds values; names = λ _. None; strict = true } in
    let at = all_there std scene [] 0 kinds values ascii refl refl (omega (arith, program.few)) in
    let r = shown_from (G std scene) (λ front h. shows_end scene) (plain_in std scene) (opens_in std scene) (closes_in std scene) Formatx (At std scene) (field_in std scene) 1 0 elements kinds values template program.numbers ascii at e in
    let s = r.shows [] refl in
    (r.out, r.printed, (Ok r.out, (s.segments, s.spelled, ap whole s.printed), refl))
