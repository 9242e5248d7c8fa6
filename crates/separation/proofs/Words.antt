-- The texts of words and characters, and values that fit.
use Rattle.std.proofs.Common.{eqb, cond, ◌≡◌, ◌≢◌, ◌<◌, ◌≤◌, ◌-◌, ℕ, zero, suc, pos, negsuc, Bool, true, false, List, [], ◌∷◌, ◌++◌, length, take, min, replicate, Option, Some, None, Ok, Err, unwrap_or, sym, ap, subst, refl, inl, inr, ◌∙◌, arith, encode_utf8}
use Rattle.std.specs.Char.{IsScalar}
use Rattle.std.specs.List.{AllByRecursion}
use Rattle.std.specs.Str.{chars, all_scalars}
use Rattle.std.specs.Fmt.Cut.{floor_char_boundary}
use Rattle.std.proofs.lemmas.Bool.{cases_eq, eq-eqb, ne_eqb}
use Rattle.std.proofs.lemmas.List.{length-replicate, take_all}
use Rattle.std.proofs.lemmas.Str.{chars-encodes, IsCharBoundary-end}
use lib.Utf8.{low_scalar}
use Rattle.padding.specs.Field.{fills}
use Rattle.sprintf.proofs.Cut.{cut_is}
use Rattle.sprintf.specs.declared.PrintfError.TheVariants.{WrongType}
use Rattle.sprintf.specs.declared.parser.ConversionSpecifier.{ConversionSpecifier}
use Rattle.sprintf.specs.declared.parser.ConversionType.{ConversionType}
use Rattle.sprintf.specs.declared.parser.ConversionType.TheVariants.{DecInt, OctInt, HexIntLower, HexIntUpper, Char as CharConversion, String}
use Rattle.sprintf.specs.declared.parser.NumericParam.{NumericParam}
use Rattle.sprintf.specs.declared.parser.NumericParam.TheVariants.{Literal, FromArgument}
use Rattle.sprintf.specs.Field.{number_of, with_number, cut_to, filled_word, word_text, character_text}
use Rattle.sprintf.specs.Meaning.{by_conversion}
use Rattle.scan_fmt.specs.Grammar.{is_blank, Until}
use Rattle.scan_fmt.specs.Scanned.{Suits}
use Rattle.values.specs.declared.kind.Kind.{Kind}
use Rattle.values.specs.declared.kind.Kind.TheVariants.{U8, U16, U32, U64, Usize, I8, I16, I32, I64, Isize, Word, Char}
use Rattle.values.specs.Datum.{Datum, natural, integer, word, character, IsOfKind}
use Rattle.row_format.specs.Columns.{Column, field_text, width_of}
use Rattle.row_format.specs.Inner.Elements.{text_or_none}
use Rattle.row_format.specs.Fit.{stop, IsFit, AreFit}
use Rattle.row_format.specs.Plannable.{is_number, Converts, IsUnpaired, Never}
use Rattle.separation.proofs.Sorts.{param_is, fills_is}

-- a word in its room
abbrev pub word_form : Bool → ℕ → List ℕ → List ℕ
word_form left room text = cond left (text ++ replicate room 32) (replicate room 32 ++ text)

filled_by : (left : Bool) (room : ℕ) (text : List ℕ) → cond left (text ++ fills room 32) (fills room 32 ++ text) ≡ word_form left room text
filled_by true room text = ap (λ (t : List ℕ). text ++ t) (fills_is room 32 (omega arith))
filled_by false room text = ap (λ (t : List ℕ). t ++ text) (fills_is room 32 (omega arith))

-- a precision that is no less than the length cuts nothing
cut_whole : (n : ℕ) (text : List ℕ) → length text ≤ n → cut_to n text ≡ text
cut_whole n text h =
    let at : floor_char_boundary text (min n (length text)) ≡ length text = cut_is text (length text) n (IsCharBoundary-end text) h (λ k l u b. absurd (omega (arith, l, b.0))) in
    ap (λ k. take k text) at ∙ take_all (length text) text (omega arith)

pub precision_is : (p : NumericParam) → (p ≢ Literal (pos 2147483647) → ⊥) → p ≡ Literal (pos 2147483647)
precision_is (Literal (pos n)) h = elim (cases_eq n 2147483647) [ inl e ↦ ap (λ k. Literal (pos k)) e | inr ne ↦ absurd (h (λ e. ne (ap (λ p. unwrap_or (number_of p) 0) e))) ]
precision_is (Literal (negsuc n)) h = absurd (h (λ e. cc))
precision_is FromArgument h = absurd (h (λ e. cc))

pub converts_word : (v : ConversionType) → Converts v Word → v ≡ String
converts_word String h = refl
converts_word DecInt h = absurd (let bad : false ≡ true = h in cc)
converts_word OctInt h = absurd (let bad : false ≡ true = h in cc)
converts_word HexIntLower h = absurd (let bad : false ≡ true = h in cc)
converts_word HexIntUpper h = absurd (let bad : false ≡ true = h in cc)
converts_word CharConversion h = absurd (let bad : Word ≡ Char = h in cc)
converts_word _ h = absurd h

pub converts_character : (v : ConversionType) → Converts v Char → v ≡ CharConversion
converts_character CharConversion h = refl
converts_character DecInt h = absurd (let bad : false ≡ true = h in cc)
converts_character OctInt h = absurd (let bad : false ≡ true = h in cc)
converts_character HexIntLower h = absurd (let bad : false ≡ true = h in cc)
converts_character HexIntUpper h = absurd (let bad : false ≡ true = h in cc)
converts_character String h = absurd (let bad : Char ≡ Word = h in cc)
converts_character _ h = absurd h

-- the text of a word's field that cuts nothing
pub word_is : (f : ConversionSpecifier) (text : List ℕ) → f.conversion_type ≡ String → f.precision ≡ Literal (pos 2147483647) → f.width ≢ FromArgument → length text ≤ 2147483647
    → field_text f Word (word text) ≡ word_form f.left_adj (width_of f - length text) text
word_is f text conversion precision given short =
    ap (λ v. text_or_none (by_conversion v (Err WrongType) (Err WrongType) (word_text f text))) conversion
    ∙ ap (λ (o : Option ℕ). text_or_none (with_number o (λ width. with_number (number_of f.precision) (λ n. Ok (filled_word f (width - length (cut_to n text)) (cut_to n text)))))) (param_is f.width given)
    ∙ ap (λ p. text_or_none (with_number (number_of p) (λ n. Ok (filled_word f (width_of f - length (cut_to n text)) (cut_to n text))))) precision
    ∙ ap (λ (t : List ℕ). filled_word f (width_of f - length t) t) (cut_whole 2147483647 text short)
    ∙ filled_by f.left_adj (width_of f - length text) text

-- the text of a character's field
pub character_is : (f : ConversionSpecifier) (c : ℕ) → f.conversion_type ≡ CharConversion → f.width ≢ FromArgument
    → field_text f Char (character c) ≡ word_form f.left_adj (width_of f - length (encode_utf8 c)) (encode_utf8 c)
character_is f c conversion given =
    ap (λ v. text_or_none (by_conversion v (Err WrongType) (character_text f c) (Err WrongType))) conversion
    ∙ ap (λ (o : Option ℕ). text_or_none (with_number o (λ width. Ok (filled_word f (width - length (encode_utf8 c)) (encode_utf8 c))))) (param_is f.width given)
    ∙ filled_by f.left_adj (width_of f - length (encode_utf8 c)) (encode_utf8 c)

-- ---- values that fit

-- a character other than the stop character
abbrev pub other_than : ℕ → ℕ → Option ℕ → ℕ
other_than a b None = a
other_than a b (Some c) = cond (eqb c a) b a

same_some : {a b : ℕ} → Some a ≡ Some b → a ≡ b
same_some e = cc

-- what holds of both holds of it
pub other_by : (P : ℕ → Type 0) (a b : ℕ) (end : Option ℕ) → P a → P b → P (other_than a b end)
other_by P a b None p q = p
other_by P a b (Some c) p q = elim (cases_eq c a) [ inl e ↦ rw (eq-eqb c a e) q | inr n ↦ rw (ne_eqb c a n) p ]

pub other_suits : (a b : ℕ) (end : Option ℕ) → is_blank a ≡ false → is_blank b ≡ false → a ≢ b → Suits (Until end) (other_than a b end)
other_suits a b None p q h = (p, λ e. cc)
other_suits a b (Some c) p q h = elim (cases_eq c a) [
  | inl e ↦ rw (eq-eqb c a e) (q, λ k. h (sym e ∙ sym (same_some k)))
  | inr n ↦ rw (ne_eqb c a n) (p, λ k. n (sym (same_some k)))
]

all_same : (P : ℕ → Type 0) (n c : ℕ) → P c → AllByRecursion P (replicate n c)
all_same P zero c h = tt
all_same P (suc n) c h = (h, all_same P n c h)

scalars_same : (n c : ℕ) → c < 128 → all_scalars (replicate n c) ≡ true
scalars_same zero c low = refl
scalars_same (suc n) c low = rw (low_scalar c (omega (arith, low))) (scalars_same n c low)

chars_same : (n c : ℕ) → c < 128 → chars (replicate n c) ≡ replicate n c
chars_same n c low = ap chars (sym (fills_is n c low)) ∙ chars-encodes (replicate n c) (scalars_same n c low)

-- the word of one character so many times
pub word_fits : (c : Column) (n letter : ℕ) → 0 < n → n ≤ 2147483647 → letter < 128 → Suits (Until (stop c)) letter → IsFit c Word (word (replicate n letter))
word_fits c n letter some short low suits = (
  (replicate n letter, (scalars_same n letter low, fills_is n letter low)),
  (
    omega (arith, length-replicate {A = ℕ} n letter),
    omega (arith, length-replicate {A = ℕ} n letter),
    subst (AllByRecursion (Suits (Until (stop c)))) (sym (chars_same n letter low)) (all_same (Suits (Until (stop c))) n letter suits),
  ),
)

pub character_fits : (c : Column) (letter : ℕ) → IsScalar letter → Suits (Until (stop c)) letter → IsFit c Char (character letter)
character_fits c letter scalar suits = (scalar, suits)

-- any number fits
pub number_fits : (c : Column) (kind : Kind) (x : Datum) → is_number kind ≡ true → IsOfKind kind x → IsFit c kind x
number_fits c kind (natural n) number is = (is, tt)
number_fits c kind (integer z) number is = (is, tt)
number_fits c Word (word text) number is = absurd (let bad : false ≡ true = number in cc)
number_fits c Char (character d) number is = absurd (let bad : false ≡ true = number in cc)
number_fits c kind (word text) number is = absurd is
number_fits c kind (character d) number is = absurd is

-- a letter that fits
abbrev pub letter_for : Column → ℕ
letter_for c = other_than 97 98 (stop c)

pub letter_suits : (c : Column) → Suits (Until (stop c)) (letter_for c)
letter_suits c = other_suits 97 98 (stop c) refl refl (λ e. omega arith)

pub letter_low : (c : Column) → letter_for c < 128
letter_low c = other_by (λ x. x < 128) 97 98 (stop c) (omega arith) (omega arith)

pub plain : (c : Column) (kind : Kind) → (x : Datum) × IsFit c kind x
plain c U8 = (natural 0, (omega arith, tt))
plain c U16 = (natural 0, (omega arith, tt))
plain c U32 = (natural 0, (omega arith, tt))
plain c U64 = (natural 0, (omega arith, tt))
plain c Usize = (natural 0, (omega arith, tt))
plain c I8 = (integer (pos 0), (record { sfits = omega arith }, tt))
plain c I16 = (integer (pos 0), (record { sfits = omega arith }, tt))
plain c I32 = (integer (pos 0), (record { sfits = omega arith }, tt))
plain c I64 = (integer (pos 0), (record { sfits = omega arith }, tt))
plain c Isize = (integer (pos 0), (record { sfits = omega arith }, tt))
plain c Word = (word (replicate 1 (letter_for c)), word_fits c 1 (letter_for c) (omega arith) (omega arith) (letter_low c) (letter_suits c))
plain c Char = (character (letter_for c), character_fits c (letter_for c) (low_scalar (letter_for c) (omega (arith, letter_low c))) (letter_suits c))

-- there are values that fit
pub all_plain : (cs : List Column) (kinds : List Kind) → Never IsUnpaired cs kinds → (values : List Datum) × AreFit cs kinds values
all_plain [] [] never = ([], tt)
all_plain [] (kind ∷ kinds) never = absurd (never tt)
all_plain (c ∷ cs) [] never = absurd (never tt)
all_plain (c ∷ cs) (kind ∷ kinds) never =
    let one = plain c kind in
    let rest = all_plain cs kinds never.1 in
    (one.0 ∷ rest.0, (one.1, rest.1))
