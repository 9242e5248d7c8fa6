-- What a translated text prints, element by element.
use Rattle.std.proofs.Common.{◌≡◌, ℕ, ◌+◌, Bool, true, false, List, [], ◌∷◌, ◌++◌, Option, Some, None, Result, Ok, Err, refl, sym, subst, arith, append_assoc}
use Rattle.std.specs.Prelude.{codes, ⊤, if◌then◌else◌, ◌==◌}
use Rattle.std.specs.List.{AllByRecursion}
use Rattle.std.proofs.lemmas.Bool.Decides.{nat_tests}
use Rattle.sprintf.specs.declared.parser.ConversionSpecifier.{ConversionSpecifier}
use Rattle.sprintf.specs.declared.parser.ConversionType.{ConversionType}
use Rattle.sprintf.specs.declared.parser.ConversionType.TheVariants.{PercentSign}
use Rattle.sprintf.specs.declared.parser.FormatElement.{FormatElement}
use Rattle.sprintf.specs.declared.parser.FormatElement.TheVariants.{Verbatim, Format}
use Rattle.sprintf.specs.declared.parser.NumericParam.{NumericParam}
use Rattle.sprintf.specs.declared.parser.NumericParam.TheVariants.{Literal, FromArgument}
use Rattle.sprintf.specs.Field.{number_of}
use Rattle.sprintf.specs.Meaning.{Meaning}
use Rattle.sprintf.specs.Text.{printed, field_by, field_text, wanted, wanted_by, stars, param_of}
use Rattle.formatx.specs.Words.{is_plain}
use Rattle.values.specs.declared.kind.Kind.{Kind}
use Rattle.values.specs.Datum.{Datum, IsOfKind, printf_meaning, each_of}
use Rattle.row_format.specs.Columns.{is_percent}
use Rattle.row_format.specs.Planned.{escaped, escaped_byte}
use Rattle.translation.specs.declared.target.Target.{Target}
use Rattle.translation.specs.Table.{translated_field}
use Rattle.translation.specs.Translated.{in_front, field_in_front, translated_from}
use Rattle.translation.specs.Laws.{HasI32, IsAsciiDatum, AreAsciiOf}
use Rattle.translation.proofs.Found.{AllPlain, given}

front_ok : (text : List ℕ) (r : Result (List ℕ) ℕ) (t : List ℕ) → in_front text r ≡ Ok t → (more : List ℕ) × (r ≡ Ok more) × (t ≡ text ++ more)
front_ok text (Ok more) t e = (more, refl, sym (ok_same (text ++ more) t e))
  where
    ok_same : (x y : List ℕ) → (let r : Result (List ℕ) ℕ = Ok x in r) ≡ Ok y → x ≡ y
    ok_same x y h = cc
front_ok text (Err p) t e = cc

field_ok : (place : ℕ) (field : Option (List ℕ)) (r : Result (List ℕ) ℕ) (t : List ℕ) → field_in_front place field r ≡ Ok t → (text : List ℕ) × (field ≡ Some text) × (in_front text r ≡ Ok t)
field_ok place None r t e = cc
field_ok place (Some text) r t e = (text, refl, e)

-- a percent sign takes no value
percent_is : (c : ConversionType) → is_percent c ≡ true → c ≡ PercentSign
percent_is PercentSign h = refl
percent_is _ h = cc

percent_text : (f : ConversionSpecifier) (values : List Meaning) → is_percent f.conversion_type ≡ true → (field_text f values ≡ Ok (codes "%")) × (wanted f ≡ 0)
percent_text f values h = let p = percent_is f.conversion_type h in (rw p refl, rw p refl)

-- a field without `*` takes one value
param_given : (p : NumericParam) (values : List Meaning) (n : ℕ) → number_of p ≡ Some n → (param_of p values ≡ Ok p) × (stars p ≡ 0)
param_given (Literal z) values n h = (refl, refl)
param_given FromArgument values n h = cc

value_by : (c : ConversionType) (f : ConversionSpecifier) (m : Meaning) (ms : List Meaning) (w q : ℕ) → is_percent c ≡ false → number_of f.width ≡ Some w → number_of f.precision ≡ Some q → (field_by c f (m ∷ ms) ≡ m.text f) × (wanted_by c f ≡ 1)
value_by PercentSign f m ms w q h width precision = cc
value_by _ f m ms w q h width precision =
    let a = param_given f.width (m ∷ ms) w width in
    let b = param_given f.precision (m ∷ ms) q precision in
    (rw (a.1, b.1, a.0, b.0) refl, rw (a.1, b.1) refl)

value_text : (f : ConversionSpecifier) (m : Meaning) (ms : List Meaning) (w q : ℕ) → is_percent f.conversion_type ≡ false → number_of f.width ≡ Some w → number_of f.precision ≡ Some q → (field_text f (m ∷ ms) ≡ m.text f) × (wanted f ≡ 1)
value_text f m ms w q h width precision = value_by f.conversion_type f m ms w q h width precision

-- what is shown of a field
pub record FieldShown (G : List ℕ → List ℕ → Type 0) (f : ConversionSpecifier) (kind : Kind) (value : Datum) (t text out : List ℕ) : Type 0 where
  pub shown : List ℕ
  pub printed : (printf_meaning kind value).text f ≡ Ok shown
  pub shows : G (t ++ text) (shown ++ out)

-- what is shown of all
pub record AllShown (G : List ℕ → List ℕ → Type 0) (es : List FormatElement) (kinds : List Kind) (values : List Datum) (t : List ℕ) : Type 0 where
  pub out : List ℕ
  pub printed : printed es (each_of printf_meaning kinds values) ≡ Ok out
  pub shows : G t out

module _ (G : List ℕ → List ℕ → Type 0) (ends : G [] [])
    (plain : (c : ℕ) (text out : List ℕ) → is_plain c ≡ true → G text out → G (c ∷ text) (c ∷ out))
    (opens : (text out : List ℕ) → G text out → G (123 ∷ 123 ∷ text) (123 ∷ out))
    (closes : (text out : List ℕ) → G text out → G (125 ∷ 125 ∷ text) (125 ∷ out)) where
  pub plain_front : (p text out : List ℕ) → AllPlain p → G text out → G (p ++ text) (p ++ out)
  plain_front [] text out h g = g
  plain_front (c ∷ p) text out h g = plain c (p ++ text) (p ++ out) h.0 (plain_front p text out h.1 g)

  byte_front : (b : ℕ) (text out : List ℕ) → G text out → G (escaped_byte b ++ text) (b ∷ out)
  byte_front b text out g = by_open (b == 123) (b == 125) (grind (arith, nat_tests)) (grind (arith, nat_tests)) (grind (arith, nat_tests))
    where
      by_open : (o c : Bool) → (o ≡ true → b ≡ 123) → (c ≡ true → b ≡ 125) → (o ≡ false → c ≡ false → is_plain b ≡ true) → G ((if o then codes "{{" else (if c then codes "}}" else b ∷ [])) ++ text) (b ∷ out)
      by_open true c is_open is_close is_none = rw (is_open refl) (opens text out g)
      by_open false true is_open is_close is_none = rw (is_close refl) (closes text out g)
      by_open false false is_open is_close is_none = plain b text out (is_none refl refl) g

  text_front : (s text out : List ℕ) → G text out → G (escaped s ++ text) (s ++ out)
  text_front [] text out g = g
  text_front (b ∷ s) text out g = rw (append_assoc (escaped_byte b) (escaped s) text) (byte_front b (escaped s ++ text) (s ++ out) (text_front s text out g))

  module _ (target : Target) (At : ℕ → Kind → Datum → Type 0)
      (field : (i : ℕ) (f : ConversionSpecifier) (kind : Kind) (value : Datum) (t text out : List ℕ) → HasI32 (Format f) → IsOfKind kind value → IsAsciiDatum value → At i kind value → translated_field target i f kind ≡ Some t → G text out → FieldShown G f kind value t text out) where
    -- each value is at its number
    abbrev pub AllAt : ℕ → List Kind → List Datum → Type 0
    AllAt i (kind ∷ kinds) (value ∷ values) = At i kind value × AllAt (i + 1) kinds values
    AllAt i _ _ = ⊤

    percent_front : (f : ConversionSpecifier) (es : List FormatElement) (kinds : List Kind) (values : List Datum) (t more : List ℕ) → is_percent f.conversion_type ≡ true → t ≡ codes "%" ++ more → AllShown G es kinds values more → AllShown G (Format f ∷ es) kinds values t
    percent_front f es kinds values t more h e r =
        let p = percent_text f (each_of printf_meaning kinds values) h in
        record { out = 37 ∷ r.out; printed = rw (p.0, p.1, r.printed) refl; shows = subst (λ (xs : List ℕ). G xs (37 ∷ r.out)) (sym e) (plain 37 more r.out refl r.shows) }

    pub shown_from : (place i : ℕ) (es : List FormatElement) (kinds : List Kind) (values : List Datum) (t : List ℕ) → AllByRecursion HasI32 es → AreAsciiOf kinds values → AllAt i kinds values → translated_from target place i es kinds ≡ Ok t → AllShown G es kinds values t
    shown_from place i [] [] [] t small ascii at e = record { out = []; printed = refl; shows = rw (nothing t e) ends }
      where
        nothing : (x : List ℕ) → (let r : Result (List ℕ) ℕ = Ok [] in r) ≡ Ok x → x ≡ []
        nothing x h = cc
    shown_from place i [] [] (value ∷ values) t small ascii at e = absurd ascii
    shown_from place i [] (kind ∷ kinds) values t small ascii at e = absurd (no_place place t e)
      where
        no_place : (p : ℕ) (x : List ℕ) → (let r : Result (List ℕ) ℕ = Err p in r) ≡ Ok x → ⊥
        no_place p x h = absurd cc
    shown_from place i (Verbatim s ∷ es) kinds values t small ascii at e =
        let x = front_ok (escaped s.now) (translated_from target (place + 1) i es kinds) t e in
        let r = shown_from (place + 1) i es kinds values x.0 small.1 ascii at x.1 in
        record { out = s.now ++ r.out; printed = rw r.printed refl; shows = subst (λ (xs : List ℕ). G xs (s.now ++ r.out)) (sym x.2) (text_front s.now x.0 r.out r.shows) }
    shown_from place i (Format f ∷ es) [] values t small ascii at e = by_percent (is_percent f.conversion_type) refl e (λ more. shown_from (place + 1) i es [] values more small.1 ascii at)
      where
        by_percent : (b : Bool) → is_percent f.conversion_type ≡ b → (if b then in_front (codes "%") (translated_from target (place + 1) i es []) else Err place) ≡ Ok t
            → ((more : List ℕ) → translated_from target (place + 1) i es [] ≡ Ok more → AllShown G es [] values more) → AllShown G (Format f ∷ es) [] values t
        by_percent true h d later = let x = front_ok (codes "%") (translated_from target (place + 1) i es []) t d in percent_front f es [] values t x.0 h x.2 (later x.0 x.1)
        by_percent false h d later = absurd (no_place place t d)
          where
            no_place : (p : ℕ) (x : List ℕ) → (let r : Result (List ℕ) ℕ = Err p in r) ≡ Ok x → ⊥
            no_place p x k = absurd cc
    shown_from place i (Format f ∷ es) (kind ∷ kinds) [] t small ascii at e = absurd ascii
    shown_from place i (Format f ∷ es) (kind ∷ kinds) (value ∷ values) t small ascii at e =
        by_percent (is_percent f.conversion_type) refl e (λ more. shown_from (place + 1) i es (kind ∷ kinds) (value ∷ values) more small.1 ascii at) (λ more. shown_from (place + 1) (i + 1) es kinds values more small.1 ascii.1 at.1)
      where
        by_percent : (b : Bool) → is_percent f.conversion_type ≡ b
            → (if b then in_front (codes "%") (translated_from target (place + 1) i es (kind ∷ kinds)) else field_in_front place (translated_field target i f kind) (translated_from target (place + 1) (i + 1) es kinds)) ≡ Ok t
            → ((more : List ℕ) → translated_from target (place + 1) i es (kind ∷ kinds) ≡ Ok more → AllShown G es (kind ∷ kinds) (value ∷ values) more)
            → ((more : List ℕ) → translated_from target (place + 1) (i + 1) es kinds ≡ Ok more → AllShown G es kinds values more)
            → AllShown G (Format f ∷ es) (kind ∷ kinds) (value ∷ values) t
        by_percent true h d later behind = let x = front_ok (codes "%") (translated_from target (place + 1) i es (kind ∷ kinds)) t d in percent_front f es (kind ∷ kinds) (value ∷ values) t x.0 h x.2 (later x.0 x.1)
        by_percent false h d later behind =
            let y = field_ok place (translated_field target i f kind) (translated_from target (place + 1) (i + 1) es kinds) t d in
            let x = front_ok y.0 (translated_from target (place + 1) (i + 1) es kinds) t y.2 in
            let r = behind x.0 x.1 in
            let g = given target i f kind y.0 y.1 in
            let v = value_text f (printf_meaning kind value) (each_of printf_meaning kinds values) g.w g.q h g.width g.precision in
            let s = field i f kind value y.0 x.0 r.out small.0 ascii.0.0 ascii.0.1 at.0 y.1 r.shows in
            record { out = s.shown ++ r.out; printed = rw (v.0, v.1, s.printed, r.printed) refl; shows = subst (λ (xs : List ℕ). G xs (s.shown ++ r.out)) (sym x.2) s.shows }
