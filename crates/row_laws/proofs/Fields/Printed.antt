-- What a field prints of a value that goes with it, as the parts that its field takes apart.
use Rattle.std.proofs.Common.{◌≡◌, ◌≢◌, ◌≤◌, ◌-◌, ◌+◌, ℕ, ℤ, pos, negsuc, Bool, true, false, List, length, nat_lt, Option, Some, Result, Ok, Err, sym, ap, refl, inl, inr, ◌∙◌, unwrap_or, unsigned_abs, encode_utf8, w8, w16, w32, w64}
use Rattle.std.specs.Int.{cast_unsigned}
use Rattle.std.proofs.Math.Utf8.{scalar}
use Rattle.std.proofs.lemmas.Bool.{cases_eq}
use Rattle.sprintf.specs.declared.PrintfError.{PrintfError}
use Rattle.sprintf.specs.declared.PrintfError.TheVariants.{WrongType}
use Rattle.sprintf.specs.declared.parser.ConversionSpecifier.{ConversionSpecifier}
use Rattle.sprintf.specs.declared.parser.ConversionType.{ConversionType}
use Rattle.sprintf.specs.declared.parser.ConversionType.TheVariants.{DecInt, OctInt, HexIntLower, HexIntUpper, Char as CharConversion, String}
use Rattle.sprintf.specs.declared.parser.NumericParam.{NumericParam}
use Rattle.sprintf.specs.declared.parser.NumericParam.TheVariants.{Literal, FromArgument}
use Rattle.sprintf.specs.Field.{filled_number, filled_word, number_of, with_number, number_text, unsigned_text, signed_text, character_text, word_text, prefix_of, digits_of, sign_of, cut_to}
use Rattle.sprintf.specs.Meaning.{by_conversion}
use Rattle.sprintf.specs.Values.{character_where, signed_character}
use Rattle.values.specs.declared.kind.Kind.{Kind}
use Rattle.values.specs.declared.kind.Kind.TheVariants.{U8, U16, U32, U64, Usize, I8, I16, I32, I64, Isize, Word, Char}
use Rattle.values.specs.Datum.{natural, integer, word, character, IsOfKind}
use Rattle.row_format.specs.Columns.{field_text, width_of}
use Rattle.row_format.specs.Inner.Elements.{text_or_none}
use Rattle.row_format.specs.Plannable.{is_number, Converts, by_bits}
use Rattle.row_laws.proofs.Fields.Layout.{filled, when}
use Rattle.row_laws.proofs.Fields.Text.{filled_text, uncut}

-- no number is a word or a character
pub no_text : (kind other : Kind) → kind ≡ other → is_number other ≡ false → is_number kind ≡ true → ⊥
no_text kind other e f h = let bad : true ≡ false = sym h ∙ ap is_number e ∙ f in cc

-- the answer of a conversion to digits, of `%s` and of `%c`

by_digits : (v : ConversionType) (kind : Kind) (d c w : Result (List ℕ) PrintfError) → Converts v kind → is_number kind ≡ true → text_or_none (by_conversion v d c w) ≡ text_or_none d
by_digits DecInt kind d c w h number = refl
by_digits OctInt kind d c w h number = refl
by_digits HexIntLower kind d c w h number = refl
by_digits HexIntUpper kind d c w h number = refl
by_digits String kind d c w h number = absurd (no_text kind Word h refl number)
by_digits CharConversion kind d c w h number = absurd (no_text kind Char h refl number)
by_digits v kind d c w h number = absurd h

not_true : false ≡ true → ⊥
not_true e = cc

by_word : (v : ConversionType) (d c w : Result (List ℕ) PrintfError) → Converts v Word → text_or_none (by_conversion v d c w) ≡ text_or_none w
by_word String d c w h = refl
by_word DecInt d c w h = absurd (not_true h)
by_word OctInt d c w h = absurd (not_true h)
by_word HexIntLower d c w h = absurd (not_true h)
by_word HexIntUpper d c w h = absurd (not_true h)
by_word CharConversion d c w h = absurd (cc)
by_word v d c w h = absurd h

by_character : (v : ConversionType) (d c w : Result (List ℕ) PrintfError) → Converts v Char → text_or_none (by_conversion v d c w) ≡ text_or_none c
by_character CharConversion d c w h = refl
by_character DecInt d c w h = absurd (not_true h)
by_character OctInt d c w h = absurd (not_true h)
by_character HexIntLower d c w h = absurd (not_true h)
by_character HexIntUpper d c w h = absurd (not_true h)
by_character String d c w h = absurd (cc)
by_character v d c w h = absurd h

-- the width is a number
width_is : (p : NumericParam) → p ≢ FromArgument → number_of p ≡ Some (unwrap_or (number_of p) 0)
width_is (Literal (pos n)) h = refl
width_is (Literal (negsuc n)) h = refl
width_is FromArgument h = absurd (h refl)

number_text_is : (f : ConversionSpecifier) (lead : List ℕ) (n : ℕ) → f.width ≢ FromArgument
    → text_or_none (number_text f lead n) ≡ filled f.left_adj f.zero_pad (width_of f - (length lead + length (digits_of f.conversion_type n))) lead (digits_of f.conversion_type n)
number_text_is f lead n h =
    ap (λ (o : Option ℕ). text_or_none (with_number o (λ width. Ok (filled_number f (width - (length lead + length (digits_of f.conversion_type n))) lead (digits_of f.conversion_type n))))) (width_is f.width h)

unsigned_of : (kind : Kind) (n : ℕ) (f : ConversionSpecifier) → Converts f.conversion_type kind → IsOfKind kind (natural n) → field_text f kind (natural n) ≡ text_or_none (unsigned_text f n)
unsigned_of U8 n f h is = by_digits f.conversion_type U8 (unsigned_text f n) (character_where (nat_lt n 128) f n) (Err WrongType) h refl
unsigned_of U16 n f h is = by_digits f.conversion_type U16 (unsigned_text f n) (character_where (scalar n) f n) (Err WrongType) h refl
unsigned_of U32 n f h is = by_digits f.conversion_type U32 (unsigned_text f n) (character_where (scalar n) f n) (Err WrongType) h refl
unsigned_of U64 n f h is = by_digits f.conversion_type U64 (unsigned_text f n) (Err WrongType) (Err WrongType) h refl
unsigned_of Usize n f h is = by_digits f.conversion_type Usize (unsigned_text f n) (Err WrongType) (Err WrongType) h refl
unsigned_of kind n f h is = absurd is

pub natural_text : (kind : Kind) (n : ℕ) (f : ConversionSpecifier) → Converts f.conversion_type kind → f.width ≢ FromArgument → IsOfKind kind (natural n)
    → field_text f kind (natural n)
    ≡ filled f.left_adj f.zero_pad (width_of f - (length (when f.alt_form (prefix_of f.conversion_type)) + length (digits_of f.conversion_type n))) (when f.alt_form (prefix_of f.conversion_type)) (digits_of f.conversion_type n)
natural_text kind n f h wide is = unsigned_of kind n f h is ∙ number_text_is f (when f.alt_form (prefix_of f.conversion_type)) n wide

-- what stands in front of a signed number's digits, and the number whose digits they are
abbrev pub signed_lead : ConversionType → ConversionType → Bool → List ℕ → List ℕ
signed_lead DecInt v alt sign = sign
signed_lead _ v alt sign = when alt (prefix_of v)

abbrev pub signed_number : ConversionType → ℕ → ℕ → ℕ
signed_number DecInt absolute complement = absolute
signed_number _ absolute complement = complement

signed_by : (v : ConversionType) (f : ConversionSpecifier) (z : ℤ) (complement : ℕ)
    → signed_text v f z complement ≡ number_text f (signed_lead v f.conversion_type f.alt_form (sign_of f z)) (signed_number v (unsigned_abs z) complement)
signed_by DecInt f z complement = refl
signed_by v f z complement = refl

signed_of : (kind : Kind) (z : ℤ) (f : ConversionSpecifier) → Converts f.conversion_type kind → IsOfKind kind (integer z)
    → field_text f kind (integer z) ≡ text_or_none (signed_text f.conversion_type f z (cast_unsigned (by_bits w8 w16 w32 w64 kind) z))
signed_of I8 z f h is = by_digits f.conversion_type I8 (signed_text f.conversion_type f z (cast_unsigned w8 z)) (signed_character f z) (Err WrongType) h refl
signed_of I16 z f h is = by_digits f.conversion_type I16 (signed_text f.conversion_type f z (cast_unsigned w16 z)) (Err WrongType) (Err WrongType) h refl
signed_of I32 z f h is = by_digits f.conversion_type I32 (signed_text f.conversion_type f z (cast_unsigned w32 z)) (Err WrongType) (Err WrongType) h refl
signed_of I64 z f h is = by_digits f.conversion_type I64 (signed_text f.conversion_type f z (cast_unsigned w64 z)) (Err WrongType) (Err WrongType) h refl
signed_of Isize z f h is = by_digits f.conversion_type Isize (signed_text f.conversion_type f z (cast_unsigned w64 z)) (Err WrongType) (Err WrongType) h refl
signed_of kind z f h is = absurd is

pub integer_text : (kind : Kind) (z : ℤ) (f : ConversionSpecifier) → Converts f.conversion_type kind → f.width ≢ FromArgument → IsOfKind kind (integer z)
    → let lead : List ℕ = signed_lead f.conversion_type f.conversion_type f.alt_form (sign_of f z) in
    let digits : List ℕ = digits_of f.conversion_type (signed_number f.conversion_type (unsigned_abs z) (cast_unsigned (by_bits w8 w16 w32 w64 kind) z)) in
    field_text f kind (integer z) ≡ filled f.left_adj f.zero_pad (width_of f - (length lead + length digits)) lead digits
integer_text kind z f h wide is =
    let complement : ℕ = cast_unsigned (by_bits w8 w16 w32 w64 kind) z in
    signed_of kind z f h is ∙ ap text_or_none (signed_by f.conversion_type f z complement)
    ∙ number_text_is f (signed_lead f.conversion_type f.conversion_type f.alt_form (sign_of f z)) (signed_number f.conversion_type (unsigned_abs z) complement) wide

-- a precision that isn't lossy
pub precise : (p : NumericParam) → ¬ ((Word ≡ Word) × (p ≢ Literal (pos 2147483647))) → p ≡ Literal (pos 2147483647)
precise (Literal (pos n)) h = elim (cases_eq n 2147483647) [ inl e ↦ ap (λ k. Literal (pos k)) e | inr other ↦ absurd (h (refl, λ e. other (let same : n ≡ 2147483647 = cc in same))) ]
precise (Literal (negsuc n)) h = absurd (h (refl, λ e. cc))
precise FromArgument h = absurd (h (refl, λ e. cc))

pub word_field : (f : ConversionSpecifier) (text : List ℕ) → Converts f.conversion_type Word → f.width ≢ FromArgument → f.precision ≡ Literal (pos 2147483647) → length text ≤ 2147483647
    → field_text f Word (word text) ≡ filled_text f.left_adj (width_of f - length text) text
word_field f text h wide is le =
    by_word f.conversion_type (Err WrongType) (Err WrongType) (word_text f text) h
    ∙ ap (λ (o : Option ℕ). text_or_none (with_number o (λ width. with_number (number_of f.precision) (λ precision. Ok (filled_word f (width - length (cut_to precision text)) (cut_to precision text)))))) (width_is f.width wide)
    ∙ ap (λ (p : NumericParam). text_or_none (with_number (number_of p) (λ precision. Ok (filled_word f (width_of f - length (cut_to precision text)) (cut_to precision text))))) is
    ∙ ap (λ (x : List ℕ). filled_word f (width_of f - length x) x) (uncut 2147483647 text le)

pub character_field : (f : ConversionSpecifier) (c : ℕ) → Converts f.conversion_type Char → f.width ≢ FromArgument
    → field_text f Char (character c) ≡ filled_text f.left_adj (width_of f - length (encode_utf8 c)) (encode_utf8 c)
character_field f c h wide =
    by_character f.conversion_type (Err WrongType) (character_text f c) (Err WrongType) h
    ∙ ap (λ (o : Option ℕ). text_or_none (with_number o (λ width. Ok (filled_word f (width - length (encode_utf8 c)) (encode_utf8 c))))) (width_is f.width wide)
