-- Which fields may touch what is behind them.
use Rattle.std.proofs.Common.{◌≡◌, ◌≢◌, ◌<◌, ◌≤◌, ◌+◌, ◌-◌, ◌^◌, ℕ, zero, suc, ℤ, pos, negsuc, Bool, true, false, List, [], ◌∷◌, ◌++◌, length, replicate, FitsSigned, sym, ap, subst, refl, inl, inr, ◌∙◌, arith, append-nil, encode_utf8, unsigned_abs}
use Rattle.std.specs.Char.{IsScalar}
use Rattle.std.specs.Int.{Width, w8, w16, w32, w64, w128}
use Rattle.std.proofs.lemmas.Bool.{cases_Bool, leb-true, leb-false}
use Rattle.std.proofs.lemmas.List.{length-replicate}
use Rattle.std.proofs.lemmas.Str.{length-encode, len_utf8_bounds, encode_ascii}
use lib.Utf8.{low_scalar}
use mir.Val.{bits, hbits}
use Rattle.numerals.proofs.Steps.{numeral-AllDigits, numeral-some}
use Rattle.sprintf.specs.declared.parser.ConversionSpecifier.{ConversionSpecifier}
use Rattle.sprintf.specs.declared.parser.ConversionType.{ConversionType}
use Rattle.sprintf.specs.declared.parser.ConversionType.TheVariants.{OctInt, HexIntLower, HexIntUpper}
use Rattle.sprintf.specs.declared.parser.NumericParam.TheVariants.{FromArgument}
use Rattle.sprintf.specs.Field.{digits_of, sign_of}
use Rattle.values.specs.declared.kind.Kind.{Kind}
use Rattle.values.specs.declared.kind.Kind.TheVariants.{Word, Char}
use Rattle.values.specs.Datum.{Datum, natural, integer, word, character, IsOfKind}
use Rattle.row_format.specs.Columns.{Column, field_text, width_of}
use Rattle.row_format.specs.Fit.{stop}
use Rattle.row_format.specs.Plannable.{IsPaired, is_number, greatest_length, trailing_spaces}
use Rattle.separation.specs.Inner.Table.{may_fill, is_signed_decimal}
use Rattle.separation.specs.Inner.Touching.{IsWhole, Touches}
use Rattle.separation.proofs.Sorts.{IsDigits, converts_digits, width_of_kind, number_form, number_field, room_of, prefix, bit_texts, decimal_texts}
use Rattle.separation.proofs.Lengths.{bits_most, bits_long, decimal_most, decimal_least}
use Rattle.separation.proofs.Texts.{EndsSolid, solid_trail, solid_behind, room_trail, digits_solid}
use Rattle.separation.proofs.Words.{word_form, precision_is, converts_word, converts_character, word_is, character_is, other_than, other_by, other_suits, word_fits, character_fits, number_fits, letter_for, letter_suits, letter_low}

-- ---- numbers

wide : (w : Width) → 2 ^ bits w ≤ 2 ^ 128
wide w8 = omega arith
wide w16 = omega arith
wide w32 = omega arith
wide w64 = omega arith
wide w128 = omega arith

half : (w : Width) → 2 ^ hbits w < 2 ^ 128
half w8 = omega arith
half w16 = omega arith
half w32 = omega arith
half w64 = omega arith
half w128 = omega arith

pub abs_small : (w : Width) (z : ℤ) → FitsSigned w z → unsigned_abs z < 2 ^ 128
abs_small w (pos n) h = omega (arith, half w, h.sfits)
abs_small w (negsuc n) h = omega (arith, half w, h.sfits)

pub bits_small : (kind : Kind) (n : ℕ) → n < 2 ^ bits (width_of_kind kind) → n < 2 ^ 128
bits_small kind n h = omega (arith, wide (width_of_kind kind))

-- the digits of a number end with no space
pub digits_end : (v : ConversionType) (n : ℕ) → n < 2 ^ 128 → EndsSolid (digits_of v n)
digits_end OctInt n h = digits_solid 8 (digits_of OctInt n) (omega arith) (numeral-some 8 n false (omega arith) h) (numeral-AllDigits 8 n false (omega arith) (omega arith) h)
digits_end HexIntLower n h = digits_solid 16 (digits_of HexIntLower n) (omega arith) (numeral-some 16 n false (omega arith) h) (numeral-AllDigits 16 n false (omega arith) (omega arith) h)
digits_end HexIntUpper n h = digits_solid 16 (digits_of HexIntUpper n) (omega arith) (numeral-some 16 n true (omega arith) h) (numeral-AllDigits 16 n true (omega arith) (omega arith) h)
digits_end v n h = digits_solid 10 (digits_of v n) (omega arith) (numeral-some 10 n false (omega arith) h) (numeral-AllDigits 10 n false (omega arith) (omega arith) h)

-- no space stands behind a number where there is no room, or `-` is missing
number_trail : (left zero_pad : Bool) (room : ℕ) (lead digits : List ℕ) → EndsSolid digits → (left ≡ true → room ≡ 0) → trailing_spaces (number_form left zero_pad room lead digits) ≡ []
number_trail true zero_pad room lead digits solid none =
    let same : lead ++ (digits ++ replicate room 32) ≡ lead ++ digits = ap (λ n. lead ++ (digits ++ replicate n 32)) (none refl) ∙ ap (λ (t : List ℕ). lead ++ t) (append-nil digits) in
    ap trailing_spaces same ∙ solid_trail (lead ++ digits) (solid_behind lead digits solid)
number_trail false true room lead digits solid none = solid_trail (lead ++ (replicate room 48 ++ digits)) (solid_behind lead (replicate room 48 ++ digits) (solid_behind (replicate room 48) digits solid))
number_trail false false room lead digits solid none = solid_trail (replicate room 32 ++ (lead ++ digits)) (solid_behind (replicate room 32) (lead ++ digits) (solid_behind lead digits solid))

number_room : (left zero_pad : Bool) (room : ℕ) (lead digits : List ℕ) → left ≡ true → 0 < room → trailing_spaces (number_form left zero_pad room lead digits) ≢ []
number_room true zero_pad room lead digits is some = room_trail lead digits room some
number_room false zero_pad room lead digits is some = absurd (let bad : false ≡ true = is in cc)

-- a text of the number's kind as long as can be
pub record LongText (f : ConversionSpecifier) (kind : Kind) : Type 0 where
  pub value : Datum
  pub is : IsOfKind kind value
  pub lead : List ℕ
  pub n : ℕ
  pub small : n < 2 ^ 128
  pub text : field_text f kind value ≡ number_field f lead n
  pub full : length lead + length (digits_of f.conversion_type n) ≡ greatest_length f kind

-- a text of the number's kind
pub record SomeText (f : ConversionSpecifier) (kind : Kind) (value : Datum) : Type 0 where
  pub lead : List ℕ
  pub n : ℕ
  pub small : n < 2 ^ 128
  pub text : field_text f kind value ≡ number_field f lead n
  pub most : length lead + length (digits_of f.conversion_type n) ≤ greatest_length f kind

module _ (f : ConversionSpecifier) (kind : Kind) (number : is_number kind ≡ true) (digits : IsDigits f.conversion_type) (given : f.width ≢ FromArgument) where
  pub some_text : (x : Datum) → IsOfKind kind x → SomeText f kind x
  some_text x is = elim (cases_Bool (is_signed_decimal f.conversion_type kind)) [
    | inl decimal ↦
        let it = (decimal_texts f kind number digits given decimal).each x is in
        record { lead = sign_of f it.0; n = unsigned_abs it.0; small = abs_small (width_of_kind kind) it.0 it.1; text = it.2; most = decimal_most f kind it.0 decimal it.1 }
    | inr other ↦
        let it = (bit_texts f kind number digits given other).each x is in
        record { lead = prefix f; n = it.0; small = bits_small kind it.0 it.1; text = it.2; most = omega (arith, bits_most f.conversion_type kind it.0 digits other it.1) }
  ]

  pub long_text : LongText f kind
  long_text = elim (cases_Bool (is_signed_decimal f.conversion_type kind)) [
    | inl decimal ↦
        let long = decimal_least f kind decimal in
        let it = (decimal_texts f kind number digits given decimal).some long.z long.fits in
        record { value = it.0; is = it.1; lead = sign_of f long.z; n = unsigned_abs long.z; small = abs_small (width_of_kind kind) long.z long.fits; text = it.2; full = long.full }
    | inr other ↦
        let long = bits_long f.conversion_type kind digits other in
        let it = (bit_texts f kind number digits given other).some long.n long.small in
        record { value = it.0; is = it.1; lead = prefix f; n = long.n; small = bits_small kind long.n long.small; text = it.2; full = ap (λ k. length (prefix f) + k) long.full }
  ]

-- ---- words

word_trail : (left : Bool) (room : ℕ) (text : List ℕ) → EndsSolid text → (left ≡ true → room ≡ 0) → trailing_spaces (word_form left room text) ≡ []
word_trail true room text solid none =
    let same : text ++ replicate room 32 ≡ text = ap (λ n. text ++ replicate n 32) (none refl) ∙ append-nil text in
    ap trailing_spaces same ∙ solid_trail text solid
word_trail false room text solid none = solid_trail (replicate room 32 ++ text) (solid_behind (replicate room 32) text solid)

word_room : (left : Bool) (room : ℕ) (text : List ℕ) → left ≡ true → 0 < room → trailing_spaces (word_form left room text) ≢ []
word_room true room text is some = room_trail text [] room some
word_room false room text is some = absurd (let bad : false ≡ true = is in cc)

-- as often as the width, and at least once
pub times : ℕ → ℕ
times zero = 1
times (suc n) = suc n

pub times_is : (n : ℕ) → n ≤ 2147483647 → (n ≤ times n) × (0 < times n) × (times n ≤ 2147483647)
unfolding times
times_is zero h = (omega arith, omega arith, omega arith)
times_is (suc n) h = (omega arith, omega arith, omega arith)

same_ends : (n c : ℕ) → 0 < n → c ≢ 32 → EndsSolid (replicate n c)
same_ends zero c some h = absurd (omega arith)
same_ends (suc zero) c some h = h
same_ends (suc (suc n)) c some h = same_ends (suc n) c (omega arith) h

wide_ends : EndsSolid (encode_utf8 65536) × EndsSolid (encode_utf8 65537)
unfolding lib.Utf8.encode
wide_ends = (λ e. omega arith, λ e. omega arith)

-- ---- the three cases

long_touches : (c : Column) (kind : Kind) → is_number kind ≡ true → IsPaired c kind → width_of c.field ≤ greatest_length c.field kind → Touches c kind
long_touches c kind number paired room =
    let long = long_text c.field kind number (converts_digits c.field.conversion_type kind number paired.0) paired.1 in (
      long.value,
      number_fits c kind long.value number long.is,
      ap trailing_spaces long.text ∙ number_trail c.field.left_adj c.field.zero_pad (room_of c.field long.lead long.n) long.lead (digits_of c.field.conversion_type long.n)
          (digits_end c.field.conversion_type long.n long.small) (λ left. omega (arith, long.full, room)),
    )

-- the long value of each kind leaves no space behind it where the width has no room for more
pub fill_touches : (c : Column) (kind : Kind) → IsPaired c kind → IsWhole c kind → width_of c.field ≤ 2147483647 → may_fill c.field kind ≡ true → Touches c kind
fill_touches c Word paired whole narrow h =
    let n = times (width_of c.field) in
    let t = times_is (width_of c.field) narrow in
    let letter = letter_for c in (
      word (replicate n letter),
      word_fits c n letter t.1 t.2 (letter_low c) (letter_suits c),
      ap trailing_spaces (word_is c.field (replicate n letter) (converts_word c.field.conversion_type paired.0) (precision_is c.field.precision (λ p. whole (refl, p))) paired.1 (omega (arith, length-replicate {A = ℕ} n letter, t.2)))
          ∙ word_trail c.field.left_adj (width_of c.field - length (replicate n letter)) (replicate n letter)
          (same_ends n letter t.1 (other_by (λ x. x ≢ 32) 97 98 (stop c) (λ e. omega arith) (λ e. omega arith)))
          (λ left. omega (arith, length-replicate {A = ℕ} n letter, t.0)),
    )
fill_touches c Char paired whole narrow h =
    let letter = other_than 65536 65537 (stop c) in
    let four : length (encode_utf8 letter) ≡ 4 = other_by (λ x. length (encode_utf8 x) ≡ 4) 65536 65537 (stop c) (length-encode 65536) (length-encode 65537) in (
      character letter,
      character_fits c letter (other_by IsScalar 65536 65537 (stop c) refl refl) (other_suits 65536 65537 (stop c) refl refl (λ e. omega arith)),
      ap trailing_spaces (character_is c.field letter (converts_character c.field.conversion_type paired.0) paired.1)
          ∙ word_trail c.field.left_adj (width_of c.field - length (encode_utf8 letter)) (encode_utf8 letter)
          (other_by (λ x. EndsSolid (encode_utf8 x)) 65536 65537 (stop c) wide_ends.0 wide_ends.1)
          (λ left. omega (arith, four, leb-true (width_of c.field) 4 h)),
    )
fill_touches c kind paired whole narrow h = long_touches c kind refl paired (leb-true (width_of c.field) (greatest_length c.field kind) h)

-- without `-` no space stands behind a value
front_number : (c : Column) (kind : Kind) → is_number kind ≡ true → IsPaired c kind → c.field.left_adj ≡ false → Touches c kind
front_number c kind number paired front =
    let long = long_text c.field kind number (converts_digits c.field.conversion_type kind number paired.0) paired.1 in (
      long.value,
      number_fits c kind long.value number long.is,
      ap trailing_spaces long.text ∙ number_trail c.field.left_adj c.field.zero_pad (room_of c.field long.lead long.n) long.lead (digits_of c.field.conversion_type long.n)
          (digits_end c.field.conversion_type long.n long.small) (λ left. absurd (let bad : true ≡ false = sym left ∙ front in cc)),
    )

pub front_touches : (c : Column) (kind : Kind) → IsPaired c kind → IsWhole c kind → width_of c.field ≤ 2147483647 → c.field.left_adj ≡ false → Touches c kind
front_touches c Word paired whole narrow front = fill_touches c Word paired whole narrow refl
front_touches c Char paired whole narrow front =
    let letter = letter_for c in
    let same : encode_utf8 letter ≡ letter ∷ [] = encode_ascii letter (letter_low c) in (
      character letter,
      character_fits c letter (low_scalar letter (omega (arith, letter_low c))) (letter_suits c),
      ap trailing_spaces (character_is c.field letter (converts_character c.field.conversion_type paired.0) paired.1)
          ∙ word_trail c.field.left_adj (width_of c.field - length (encode_utf8 letter)) (encode_utf8 letter)
          (subst EndsSolid (sym same) (other_by (λ x. x ≢ 32) 97 98 (stop c) (λ e. omega arith) (λ e. omega arith)))
          (λ left. absurd (let bad : true ≡ false = sym left ∙ front in cc)),
    )
front_touches c kind paired whole narrow front = front_number c kind refl paired front

-- a value on the left of more room than it can fill has a space behind it
number_apart : (c : Column) (kind : Kind) → is_number kind ≡ true → IsPaired c kind → greatest_length c.field kind < width_of c.field → c.field.left_adj ≡ true → Touches c kind → ⊥
number_apart c kind number paired room left (x, fit, none) =
    let text = some_text c.field kind number (converts_digits c.field.conversion_type kind number paired.0) paired.1 x fit.0 in
    number_room c.field.left_adj c.field.zero_pad (room_of c.field text.lead text.n) text.lead (digits_of c.field.conversion_type text.n) left (omega (arith, text.most, room)) (sym (ap trailing_spaces text.text) ∙ none)

character_apart : (c : Column) (x : Datum) → IsPaired c Char → 4 < width_of c.field → c.field.left_adj ≡ true → IsOfKind Char x → trailing_spaces (field_text c.field Char x) ≢ []
character_apart c (character letter) paired room left is none =
    word_room c.field.left_adj (width_of c.field - length (encode_utf8 letter)) (encode_utf8 letter) left (let most = len_utf8_bounds letter in omega (arith, length-encode letter, most.1, room))
    (sym (ap trailing_spaces (character_is c.field letter (converts_character c.field.conversion_type paired.0) paired.1)) ∙ none)
character_apart c (natural n) paired room left is none = is
character_apart c (integer z) paired room left is none = is
character_apart c (word text) paired room left is none = is

pub room_apart : (c : Column) (kind : Kind) → IsPaired c kind → may_fill c.field kind ≡ false → c.field.left_adj ≡ true → Touches c kind → ⊥
room_apart c Word paired h left touches = let bad : true ≡ false = h in cc
room_apart c Char paired h left touches = character_apart c touches.0 paired (leb-false (width_of c.field) 4 h) left touches.1.0 touches.2
room_apart c kind paired h left touches = number_apart c kind refl paired (leb-false (width_of c.field) (greatest_length c.field kind) h) left touches
