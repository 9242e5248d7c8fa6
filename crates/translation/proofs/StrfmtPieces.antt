-- What strfmt prints of a translated text, piece by piece.
use Rattle.std.proofs.Common.{◌≡◌, ◌≢◌, inl, inr, ℕ, suc, ◌+◌, ◌≤◌, Bool, true, false, List, [], ◌∷◌, ◌++◌, length, drop, take, Option, Some, None, Ok, refl, ap, sym, ◌∙◌, subst, arith, append_assoc}
use Rattle.std.specs.Prelude.{◌==◌, ◌&&◌, nat_lt, not, is_some, is_none}
use Rattle.std.specs.Char.{is_ascii_digit}
use Rattle.std.specs.List.{prefix_len}
use Rattle.std.specs.Str.{all_ascii_digits}
use Rattle.std.proofs.lemmas.Bool.Decides.{nat_tests}
use Rattle.std.proofs.lemmas.List.{append-nil}
use Rattle.std.proofs.Math.Seq.{take-append_seam}
use Rattle.numerals.specs.Numeral.{numeral}
use Rattle.strfmt.specs.Fault.{first_failure}
use Rattle.strfmt.specs.Grammar.Parts.{IsWritten}
use Rattle.strfmt.specs.Grammar.Pattern.{is_too_large, type_checks, spec_of, key_of, specification_of, first_cause, read_as, IsRead}
use Rattle.strfmt.specs.Grammar.{Piece, ordinary, escape, pattern, IsNoBrace, HasNoBrace, IsCut}
use Rattle.strfmt.specs.Spec.{Spec, View}
use Rattle.strfmt.specs.Text.{Meaning, joined}
use Rattle.formatx.specs.Words.{is_plain}
use Rattle.translation.specs.declared.options.Letters.{Letters}
use Rattle.translation.specs.declared.options.Letters.TheVariants.{Unset as NoLetters, LowerHex, UpperHex, Octal}
use Rattle.translation.specs.declared.options.Side.{Side}
use Rattle.translation.specs.declared.options.Side.TheVariants.{Unset, Left, Right, RightOfZeros}
use Rattle.translation.specs.declared.target.Target.TheVariants.{Strfmt}
use Rattle.translation.specs.Table.{in_braces}
use Rattle.translation.specs.Inner.Options.{side_text, plus_text, width_text, precision_text, letters_text, behind_colon}
use Rattle.translation.proofs.Braces.{braces}
use Rattle.translation.proofs.Decimals.{Writes, run_length}
use Rattle.translation.proofs.Body.{is_quiet, AllQuiet, IsWidth, IsPrecision, quiet_append, quiet_plus, quiet_width, quiet_precision, quiet_letters, quiet_digits}
use Rattle.translation.proofs.StrfmtRead.{parts_of, strfmt_text, is_written}

-- the key, and the specification behind the colon
not_colon : (x : ℕ) → is_ascii_digit x ≡ true → not (x == 58) ≡ true
not_colon x h = grind (arith, nat_tests)

run_all : (ds : List ℕ) → all_ascii_digits ds ≡ true → prefix_len (λ x. not (x == 58)) ds ≡ length ds
run_all [] h = refl
run_all (d ∷ ds) h =
    let here : is_ascii_digit d ≡ true = grind (arith, nat_tests) in
    let later : all_ascii_digits ds ≡ true = grind (arith, nat_tests) in
    rw (not_colon d here, run_all ds later) (omega arith)

take_all : (xs : List ℕ) → take (length xs) xs ≡ xs
take_all [] = refl
take_all (x ∷ xs) = ap (λ (t : List ℕ). x ∷ t) (take_all xs)

drop_past : (xs more : List ℕ) (c : ℕ) → drop (length xs + 1) (xs ++ c ∷ more) ≡ more
drop_past [] more c = refl
drop_past (x ∷ xs) more c = let e : suc (length xs) + 1 ≡ suc (length xs + 1) = omega arith in rw e (drop_past xs more c)

drop_over : (xs : List ℕ) → drop (length xs + 1) xs ≡ []
drop_over [] = refl
drop_over (x ∷ xs) = let e : suc (length xs) + 1 ≡ suc (length xs + 1) = omega arith in rw e (drop_over xs)

pattern_parts : (n : ℕ) (ds text : List ℕ) → Writes n ds → (key_of (ds ++ behind_colon text) ≡ ds) × (specification_of (ds ++ behind_colon text) ≡ text)
pattern_parts n ds [] w =
    let run = run_all ds w.digits in
    rw (append-nil ds, run) (take_all ds, drop_over ds)
pattern_parts n ds (c ∷ cs) w =
    let run = run_length (λ x. not (x == 58)) ds (58 ∷ c ∷ cs) not_colon w.digits refl in
    rw run (take-append_seam ds (58 ∷ c ∷ cs), drop_past ds (c ∷ cs) 58)

-- no check fails
lt_false : (a b : ℕ) → b ≤ a → nat_lt a b ≡ false
lt_false a b h = grind (arith, nat_tests)

width_fits : (w : Option ℕ) → IsWidth w → is_too_large w ≡ false
width_fits None h = refl
width_fits (Some w) h = lt_false 9223372036854775807 w (let small = h.1.small in omega arith)

precision_fits : (q : Option ℕ) → IsPrecision q → is_too_large q ≡ false
precision_fits None h = refl
precision_fits (Some q) h = lt_false 9223372036854775807 q (let small = h.small in omega arith)

dot_fits : (q : Option ℕ) → (is_some q && is_none q) ≡ false
dot_fits None = refl
dot_fits (Some q) = refl

letters_fit : (letters : Letters) → first_failure (type_checks false (letters_text Strfmt letters)) ≡ None
letters_fit NoLetters = refl
letters_fit LowerHex = refl
letters_fit UpperHex = refl
letters_fit Octal = refl

some_key : (n : ℕ) (ds : List ℕ) → (w : Writes n ds) → (length ds == 0) ≡ false
some_key n ds w = rw w.is (not_zero w.first w.others)
  where
    not_zero : (c : ℕ) (xs : List ℕ) → (length (c ∷ xs) == 0) ≡ false
    not_zero c xs = grind (arith, nat_tests)

no_cause : (n : ℕ) (ds : List ℕ) (side : Side) (plus : Bool) (w q : Option ℕ) (letters : Letters) → Writes n ds → IsWidth w → IsPrecision q → first_cause ds (parts_of side plus w q letters) ≡ None
no_cause n ds side plus w q letters number width precision =
    rw (some_key n ds number, width_fits w width, dot_fits q, precision_fits q precision) (letters_fit letters)

abbrev pub spec_at : Side → Bool → Option ℕ → Option ℕ → Letters → Spec
spec_at side plus w q letters = spec_of (parts_of side plus w q letters)

abbrev inner_of : ℕ → List ℕ → List ℕ
inner_of i text = numeral 10 false i ++ behind_colon text

abbrev view_of : ℕ → Side → Bool → Option ℕ → Option ℕ → Letters → View
view_of i side plus w q letters = record { key = key_of (inner_of i (strfmt_text side plus w q letters)); pattern = inner_of i (strfmt_text side plus w q letters); spec = spec_at side plus w q letters; text = [] }

is_read : (i : ℕ) (side : Side) (plus : Bool) (w q : Option ℕ) (letters : Letters) → Writes i (numeral 10 false i) → side ≢ RightOfZeros → IsWidth w → IsPrecision q
    → IsRead (inner_of i (strfmt_text side plus w q letters)) (Ok (view_of i side plus w q letters))
is_read i side plus w q letters number s width precision =
    let parts = pattern_parts i (numeral 10 false i) (strfmt_text side plus w q letters) number in
    let cause : first_cause (key_of (inner_of i (strfmt_text side plus w q letters))) (parts_of side plus w q letters) ≡ None =
    ap (λ (k : List ℕ). first_cause k (parts_of side plus w q letters)) parts.0 ∙ no_cause i (numeral 10 false i) side plus w q letters number width precision in (
      parts_of side plus w q letters,
      subst (λ (t : List ℕ). IsWritten t (parts_of side plus w q letters)) (sym parts.1) (is_written side plus w q letters s width precision),
      sym (ap (read_as (inner_of i (strfmt_text side plus w q letters)) (spec_at side plus w q letters)) cause),
    )

-- there are no braces in a pattern
quiet_no_brace : (b : ℕ) → is_quiet b ≡ true → IsNoBrace b
quiet_no_brace b h = (λ e. absurd (apart (sym (ap is_quiet e) ∙ h)), λ e. absurd (apart (sym (ap is_quiet e) ∙ h)))
  where
    apart : false ≡ true → ⊥
    apart e = absurd cc

no_brace_quiet : (bs : List ℕ) → AllQuiet bs → HasNoBrace bs
no_brace_quiet [] h = tt
no_brace_quiet (b ∷ bs) h = (quiet_no_brace b h.0, no_brace_quiet bs h.1)

no_brace_append : (a b : List ℕ) → HasNoBrace a → HasNoBrace b → HasNoBrace (a ++ b)
no_brace_append [] b p q = q
no_brace_append (x ∷ a) b p q = (p.0, no_brace_append a b p.1 q)

apart_byte : (a b : ℕ) → (a == b) ≡ false → a ≢ b
apart_byte a b h = λ e. absurd (omega (arith, differ a b h e))
  where
    differ : (a b : ℕ) → (a == b) ≡ false → a ≡ b → 1 ≤ 0
    differ a b h e = grind (arith, nat_tests)

side_no_brace : (side : Side) → HasNoBrace (side_text side)
side_no_brace Unset = tt
side_no_brace Left = ((apart_byte 60 123 refl, apart_byte 60 125 refl), tt)
side_no_brace Right = ((apart_byte 62 123 refl, apart_byte 62 125 refl), tt)
side_no_brace RightOfZeros = ((apart_byte 48 123 refl, apart_byte 48 125 refl), ((apart_byte 62 123 refl, apart_byte 62 125 refl), tt))

colon_no_brace : (text : List ℕ) → HasNoBrace text → HasNoBrace (behind_colon text)
colon_no_brace [] h = tt
colon_no_brace (c ∷ cs) h = ((apart_byte 58 123 refl, apart_byte 58 125 refl), h)

inner_no_brace : (i : ℕ) (side : Side) (plus : Bool) (w q : Option ℕ) (letters : Letters) → Writes i (numeral 10 false i) → IsWidth w → IsPrecision q → HasNoBrace (inner_of i (strfmt_text side plus w q letters))
inner_no_brace i side plus w q letters number width precision =
    let rest = quiet_append (plus_text plus) _ (quiet_plus plus) (quiet_append (width_text w) _ (quiet_width w width) (quiet_append (precision_text q) _ (quiet_precision q precision) (quiet_letters Strfmt letters))) in
    no_brace_append (numeral 10 false i) _ (no_brace_quiet (numeral 10 false i) (quiet_digits (numeral 10 false i) number.digits))
    (colon_no_brace (strfmt_text side plus w q letters) (no_brace_append (side_text side) _ (side_no_brace side) (no_brace_quiet _ rest)))

module _ (meanings : List ℕ → Option Meaning) where
  -- the text is cut into some pieces, which print this
  pub record Cut (text out : List ℕ) : Type 0 where
    pub pieces : List Piece
    pub cut : IsCut pieces None text
    pub printed : joined meanings pieces None ≡ Ok out

  pub cut_end : Cut [] []
  cut_end = record { pieces = []; cut = refl; printed = refl }

  pub cut_plain : (c : ℕ) (text out : List ℕ) → is_plain c ≡ true → Cut text out → Cut (c ∷ text) (c ∷ out)
  cut_plain c text out h g = record { pieces = ordinary c ∷ g.pieces; cut = (text, ((apart_byte c 123 (no_open c h), apart_byte c 125 (no_close c h)), refl), g.cut); printed = rw g.printed refl }
    where
      no_open : (c : ℕ) → is_plain c ≡ true → (c == 123) ≡ false
      no_open c h = grind (arith, nat_tests)

      no_close : (c : ℕ) → is_plain c ≡ true → (c == 125) ≡ false
      no_close c h = grind (arith, nat_tests)

  pub cut_open : (text out : List ℕ) → Cut text out → Cut (123 ∷ 123 ∷ text) (123 ∷ out)
  cut_open text out g = record { pieces = escape 123 ∷ g.pieces; cut = (text, (inl refl, refl), g.cut); printed = rw g.printed refl }

  pub cut_close : (text out : List ℕ) → Cut text out → Cut (125 ∷ 125 ∷ text) (125 ∷ out)
  cut_close text out g = record { pieces = escape 125 ∷ g.pieces; cut = (text, (inr refl, refl), g.cut); printed = rw g.printed refl }

  pub cut_field : (i : ℕ) (side : Side) (plus : Bool) (w q : Option ℕ) (letters : Letters) (m : Meaning) (shown rest out : List ℕ) → Writes i (numeral 10 false i) → side ≢ RightOfZeros → IsWidth w → IsPrecision q
      → meanings (numeral 10 false i) ≡ Some m → m (spec_at side plus w q letters) ≡ Ok shown → Cut rest out → Cut (in_braces i (strfmt_text side plus w q letters) ++ rest) (shown ++ out)
  cut_field i side plus w q letters m shown rest out number s width precision key says g =
      let text : List ℕ = strfmt_text side plus w q letters in
      let view : View = view_of i side plus w q letters in
      let whole : in_braces i text ++ rest ≡ 123 ∷ (inner_of i text ++ 125 ∷ rest) = rw (braces i text) (simp append_assoc) in
      let found : meanings view.key ≡ Some m = ap meanings (pattern_parts i (numeral 10 false i) text number).0 ∙ key in
      record {
        pieces = pattern view ∷ g.pieces;
        cut = (rest, (inner_of i text, (inner_no_brace i side plus w q letters number width precision, whole), is_read i side plus w q letters number s width precision), g.cut);
        printed = rw (found, says, g.printed) refl;
      }
