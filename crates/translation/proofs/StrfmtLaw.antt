-- The template of strfmt prints what the format of printf prints.
use Rattle.std.proofs.Common.{◌≡◌, ℕ, suc, ◌+◌, ◌<◌, ◌^◌, Bool, true, false, List, [], ◌∷◌, ◌++◌, length, Option, Some, None, Ok, refl, ap, sym, ◌∙◌, subst, arith, append_assoc, length-append}
use Rattle.std.specs.Prelude.{bytes_eq}
use Rattle.std.specs.Str.Parse.{digits_value}
use Rattle.std.proofs.lemmas.Slice.Eq.{bytes_eq-Decides}
use Rattle.numerals.specs.Numeral.{numeral}
use Rattle.numerals.specs.Laws.{NumeralIsStd}
use Rattle.sprintf.specs.declared.parser.ConversionSpecifier.{ConversionSpecifier}
use Rattle.sprintf.specs.declared.parser.FormatElement.TheVariants.{Format}
use Rattle.strfmt.specs.Text.{Meaning}
use Rattle.values.specs.declared.kind.Kind.{Kind}
use Rattle.values.specs.Datum.{Datum, IsOfKind, each_of}
use Rattle.values.specs.Templates.{strfmt_meaning}
use Rattle.printer.specs.Text.{value_at_key}
use Rattle.translation.specs.declared.options.Options.{Options}
use Rattle.translation.specs.declared.target.Target.TheVariants.{Strfmt}
use Rattle.translation.specs.Table.{translated_field, in_braces}
use Rattle.translation.specs.Inner.Options.{written}
use Rattle.translation.specs.Laws.{HasI32, IsAsciiDatum, AreAsciiOf, PrintsTheSame}
use Rattle.translation.proofs.Decimals.{writes}
use Rattle.translation.proofs.StrfmtRead.{strfmt_text}
use Rattle.translation.proofs.StrfmtPieces.{Cut, cut_end, cut_plain, cut_open, cut_close, cut_field}
use Rattle.translation.proofs.StrfmtFields.{strfmt_field}
use Rattle.translation.proofs.Induction.{FieldShown, plain_front, AllAt, shown_from}

is_false : (b : Bool) → ¬ (b ≡ true) → b ≡ false
is_false true h = absurd (h refl)
is_false false h = refl

-- two numbers have two numerals
one_number : NumeralIsStd → (a b : ℕ) → a < 2 ^ 63 → b < 2 ^ 63 → numeral 10 false a ≡ numeral 10 false b → a ≡ b
one_number std a b p q e = sym (writes std a p).value ∙ ap (digits_value 10) e ∙ (writes std b q).value

-- the value at the key of its position
key_found : NumeralIsStd → {A : Type 0} (place : ℕ) (before : List A) (m : A) (ms : List A) → place + length before < 2 ^ 63 → value_at_key place [] (before ++ m ∷ ms) (numeral 10 false (place + length before)) ≡ Some m
key_found std place [] m ms few =
    let e : place + 0 ≡ place = omega arith in
    let same : bytes_eq (numeral 10 false (place + 0)) (numeral 10 false place) ≡ true = (bytes_eq-Decides (numeral 10 false (place + 0)) (numeral 10 false place)).1 (ap (numeral 10 false) e) in
    rw same refl
key_found std place (x ∷ before) m ms few =
    let k : List ℕ = numeral 10 false (place + suc (length before)) in
    let differ : bytes_eq k (numeral 10 false place) ≡ false =
    is_false (bytes_eq k (numeral 10 false place)) (λ h. let e : place + suc (length before) ≡ place = one_number std (place + suc (length before)) place few (omega arith) ((bytes_eq-Decides k (numeral 10 false place)).0 h) in absurd (omega arith)) in
    let next : (place + 1) + length before ≡ place + suc (length before) = omega arith in
    rw differ (subst (λ (n : ℕ). value_at_key (place + 1) [] (before ++ m ∷ ms) (numeral 10 false n) ≡ Some m) next (key_found std (place + 1) before m ms (omega arith)))

written_is : (o : Options) → o.zero ≡ false → written Strfmt o ≡ strfmt_text o.side o.plus o.width o.precision o.letters
written_is o z = rw z refl

module _ (std : NumeralIsStd) (all : List Meaning) where
  abbrev meanings : List ℕ → Option Meaning
  meanings key = value_at_key 0 [] all key

  abbrev G : List ℕ → List ℕ → Type 0
  G text out = Cut meanings text out

  -- the value stands at its key
  abbrev At : ℕ → Kind → Datum → Type 0
  At i kind value = (meanings (numeral 10 false i) ≡ Some (strfmt_meaning kind value)) × (i < 2 ^ 63)

  field_in : (i : ℕ) (f : ConversionSpecifier) (kind : Kind) (value : Datum) (t text out : List ℕ) → HasI32 (Format f) → IsOfKind kind value → IsAsciiDatum value → At i kind value → translated_field Strfmt i f kind ≡ Some t → G text out → FieldShown G f kind value t text out
  field_in i f kind value t text out small of_kind ascii at e g =
      let r = strfmt_field std i f kind value t small of_kind ascii e in
      let hole : List ℕ = in_braces i (strfmt_text r.o.side r.o.plus r.o.width r.o.precision r.o.letters) in
      let one : G (hole ++ text) (r.shown ++ out) = cut_field meanings i r.o.side r.o.plus r.o.width r.o.precision r.o.letters (strfmt_meaning kind value) r.shown text out (writes std i at.1) r.side r.body.width r.body.precision at.0 r.field g in
      let both : G (r.prefix ++ (hole ++ text)) (r.prefix ++ (r.shown ++ out)) = plain_front G (cut_end meanings) (cut_plain meanings) (cut_open meanings) (cut_close meanings) r.prefix (hole ++ text) (r.shown ++ out) r.plain one in
      let t_is : t ≡ r.prefix ++ hole = r.text ∙ ap (λ (w : List ℕ). r.prefix ++ in_braces i w) (written_is r.o r.zero) in
      let joined : r.prefix ++ (hole ++ text) ≡ t ++ text = sym (ap (λ (xs : List ℕ). xs ++ text) t_is ∙ append_assoc r.prefix hole text) in
      let printed_all : G (r.prefix ++ (hole ++ text)) (r.prefix ++ r.shown ++ out) = subst (λ (ys : List ℕ). G (r.prefix ++ (hole ++ text)) ys) (sym (append_assoc r.prefix r.shown out)) both in
      record {
        shown = r.prefix ++ r.shown;
        printed = r.printed;
        shows = subst (λ (xs : List ℕ). G xs (r.prefix ++ r.shown ++ out)) joined printed_all;
      }

  abbrev AllThere : ℕ → List Kind → List Datum → Type 0
  AllThere i kinds values = AllAt G (cut_end meanings) (cut_plain meanings) (cut_open meanings) (cut_close meanings) Strfmt At field_in i kinds values

  all_there : (before : List Meaning) (i : ℕ) (kinds : List Kind) (values : List Datum) → AreAsciiOf kinds values → all ≡ before ++ each_of strfmt_meaning kinds values → i ≡ length before → i + length kinds < 2 ^ 63 → AllThere i kinds values
  all_there before i [] [] ascii e at few = tt
  all_there before i [] (value ∷ values) ascii e at few = tt
  all_there before i (kind ∷ kinds) [] ascii e at few = tt
  all_there before i (kind ∷ kinds) (value ∷ values) ascii e at few =
      let m : Meaning = strfmt_meaning kind value in
      let ms : List Meaning = each_of strfmt_meaning kinds values in
      let place : 0 + length before ≡ i = omega (arith, at) in
      let found : value_at_key 0 [] (before ++ m ∷ ms) (numeral 10 false (0 + length before)) ≡ Some m = key_found std 0 before m ms (omega (arith, at, few)) in
      let here : value_at_key 0 [] all (numeral 10 false i) ≡ Some m =
      subst (λ (xs : List Meaning). value_at_key 0 [] xs (numeral 10 false i) ≡ Some m) (sym e) (subst (λ (n : ℕ). value_at_key 0 [] (before ++ m ∷ ms) (numeral 10 false n) ≡ Some m) place found) in (
        (here, omega arith),
        all_there (before ++ m ∷ []) (i + 1) kinds values ascii.1 (e ∙ sym (append_assoc before (m ∷ []) ms)) (omega (arith, length-append before (m ∷ []))) (omega arith),
      )

-- the law
pub prints_strfmt : NumeralIsStd → PrintsTheSame Strfmt
prints_strfmt std elements kinds values template program ascii e =
    let all : List Meaning = each_of strfmt_meaning kinds values in
    let m = meanings std all in
    let at = all_there std all [] 0 kinds values ascii refl refl (omega (arith, program.few)) in
    let r = shown_from (G std all) (cut_end m) (cut_plain m) (cut_open m) (cut_close m) Strfmt (At std all) (field_in std all) 1 0 elements kinds values template program.numbers ascii at e in
    (r.out, r.printed, (Ok r.out, (r.shows.pieces, None, r.shows.cut, sym r.shows.printed), refl))
