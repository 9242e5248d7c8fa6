-- The text of a field over a value that fits is UTF-8.
use Rattle.std.proofs.Common.{cond, ◌≡◌, ◌<◌, ◌≤◌, ◌-◌, ◌+◌, ◌^◌, ℕ, zero, suc, ℤ, pos, negsuc, Bool, true, false, List, [], ◌∷◌, ◌++◌, length, replicate, Option, Some, None, Result, Ok, Err, encode_utf8, unsigned_abs, nat_lt, refl, arith}
use Rattle.std.specs.Prelude.{FitsSigned}
use Rattle.std.specs.Char.{IsScalar}
use Rattle.std.specs.Int.{Width, w8, w16, w32, w64, w128, cast_unsigned}
use Rattle.std.specs.List.{AllByRecursion}
use Rattle.std.specs.Str.{IsUtf8, encode_utf8_all}
use Rattle.std.proofs.Math.Facts.{Fits-of_z}
use Rattle.std.proofs.Math.Utf8.{scalar, low_scalar}
use Rattle.std.proofs.lemmas.Bool.{ltb-true}
use Rattle.std.proofs.lemmas.Str.{IsUtf8-append, IsUtf8-encode, IsUtf8-from_ascii, IsUtf8-nil}
use mir.Val.{bits}
use Rattle.numerals.proofs.Reading.{numeral-IsUtf8}
use Rattle.sprintf.specs.declared.PrintfError.{PrintfError}
use Rattle.sprintf.specs.declared.PrintfError.TheVariants.{WrongType}
use Rattle.sprintf.specs.declared.parser.ConversionSpecifier.{ConversionSpecifier}
use Rattle.sprintf.specs.declared.parser.ConversionType.{ConversionType}
use Rattle.sprintf.specs.declared.parser.ConversionType.TheVariants.{DecInt, OctInt, HexIntLower, HexIntUpper, Char as CharConversion, String as StringConversion}
use Rattle.sprintf.specs.declared.parser.NumericParam.TheVariants.{Literal}
use Rattle.sprintf.specs.Values.{character_where, signed_character}
use Rattle.sprintf.specs.Field.{filled_number, filled_word, number_of, with_number, number_text, unsigned_text, signed_text, character_text, word_text, prefix_of, digits_of, sign_of, cut_to}
use Rattle.sprintf.specs.Meaning.{by_conversion}
use Rattle.scan_fmt.proofs.Characters.{ascii_from}
use Rattle.values.specs.declared.kind.Kind.{Kind}
use Rattle.values.specs.declared.kind.Kind.TheVariants.{U8, U16, U32, U64, Usize, I8, I16, I32, I64, Isize, Word, Char}
use Rattle.values.specs.Datum.{Datum, natural, integer, word, character}
use Rattle.row_format.specs.Columns.{Column, field_text}
use Rattle.row_format.specs.Inner.Elements.{text_or_none}
use Rattle.row_format.specs.Fit.{IsFit}
use Rattle.row_format.specs.Plannable.{IsLossy}
use Rattle.row_laws.proofs.Fields.Printed.{precise}
use Rattle.row_laws.proofs.Fields.Text.{uncut}

-- The text of an answer is UTF-8.
abbrev IsText : Result (List ℕ) PrintfError → Type 0
IsText r = IsUtf8 (text_or_none r)

ascii : (text : List ℕ) → AllByRecursion (λ c. c < 128) text → IsUtf8 text
ascii text low = IsUtf8-from_ascii text (ascii_from text low)

abbrev fills : ℕ → ℕ → List ℕ
fills n c = encode_utf8_all (replicate n c)

three : (a b c : List ℕ) → IsUtf8 a → IsUtf8 b → IsUtf8 c → IsUtf8 ((a ++ b) ++ c)
three a b c h k l = IsUtf8-append (a ++ b) c (IsUtf8-append a b h k) l

fills_utf8 : (n c : ℕ) → IsScalar c → IsUtf8 (fills n c)
fills_utf8 zero c is = IsUtf8-nil
fills_utf8 (suc n) c is = IsUtf8-append (encode_utf8 c) (fills n c) (IsUtf8-encode c is) (fills_utf8 n c is)

number_by : (left zero_pad : Bool) (room : ℕ) (lead digits : List ℕ) → IsUtf8 lead → IsUtf8 digits → IsUtf8 (cond left (lead ++ digits ++ fills room 32) (cond zero_pad (lead ++ fills room 48 ++ digits) (fills room 32 ++ lead ++ digits)))
number_by true z room lead digits h k = three lead digits (fills room 32) h k (fills_utf8 room 32 refl)
number_by false true room lead digits h k = three lead (fills room 48) digits h (fills_utf8 room 48 refl) k
number_by false false room lead digits h k = three (fills room 32) lead digits (fills_utf8 room 32 refl) h k

word_by : (left : Bool) (room : ℕ) (text : List ℕ) → IsUtf8 text → IsUtf8 (cond left (text ++ fills room 32) (fills room 32 ++ text))
word_by true room text h = IsUtf8-append text (fills room 32) h (fills_utf8 room 32 refl)
word_by false room text h = IsUtf8-append (fills room 32) text (fills_utf8 room 32 refl) h

digits_utf8 : (v : ConversionType) (n : ℕ) → n < 2 ^ 128 → IsUtf8 (digits_of v n)
digits_utf8 OctInt n small = numeral-IsUtf8 8 n false (omega arith) (omega arith) small
digits_utf8 HexIntLower n small = numeral-IsUtf8 16 n false (omega arith) (omega arith) small
digits_utf8 HexIntUpper n small = numeral-IsUtf8 16 n true (omega arith) (omega arith) small
digits_utf8 v n small = numeral-IsUtf8 10 n false (omega arith) (omega arith) small

prefix_utf8 : (v : ConversionType) (alternate : Bool) → IsUtf8 (cond alternate (prefix_of v) [])
prefix_utf8 v false = IsUtf8-nil
prefix_utf8 OctInt true = ascii (48 ∷ []) (omega arith, tt)
prefix_utf8 HexIntLower true = ascii (48 ∷ 120 ∷ []) (omega arith, (omega arith, tt))
prefix_utf8 HexIntUpper true = ascii (48 ∷ 88 ∷ []) (omega arith, (omega arith, tt))
prefix_utf8 v true = IsUtf8-nil

sign_by : (force space : Bool) → IsUtf8 (cond force (43 ∷ []) (cond space (32 ∷ []) []))
sign_by true space = ascii (43 ∷ []) (omega arith, tt)
sign_by false true = ascii (32 ∷ []) (omega arith, tt)
sign_by false false = IsUtf8-nil

sign_utf8 : (f : ConversionSpecifier) (z : ℤ) → IsUtf8 (sign_of f z)
sign_utf8 f (negsuc n) = ascii (45 ∷ []) (omega arith, tt)
sign_utf8 f (pos n) = sign_by f.force_sign f.space_sign

with_number_utf8 : (o : Option ℕ) (text : ℕ → Result (List ℕ) PrintfError) → ((n : ℕ) → IsText (text n)) → IsText (with_number o text)
with_number_utf8 (Some n) text h = h n
with_number_utf8 None text h = IsUtf8-nil

number_utf8 : (f : ConversionSpecifier) (lead : List ℕ) (n : ℕ) → IsUtf8 lead → n < 2 ^ 128 → IsText (number_text f lead n)
number_utf8 f lead n h small =
    let digits = digits_of f.conversion_type n in
    with_number_utf8 (number_of f.width) (λ width. Ok (filled_number f (width - (length lead + length digits)) lead digits))
    (λ width. number_by f.left_adj f.zero_pad (width - (length lead + length digits)) lead digits h (digits_utf8 f.conversion_type n small))

unsigned_utf8 : (f : ConversionSpecifier) (n : ℕ) → n < 2 ^ 128 → IsText (unsigned_text f n)
unsigned_utf8 f n small = number_utf8 f (cond f.alt_form (prefix_of f.conversion_type) []) n (prefix_utf8 f.conversion_type f.alt_form) small

signed_utf8 : (v : ConversionType) (f : ConversionSpecifier) (z : ℤ) (complement : ℕ) → unsigned_abs z < 2 ^ 128 → complement < 2 ^ 128 → IsText (signed_text v f z complement)
signed_utf8 DecInt f z complement h k = number_utf8 f (sign_of f z) (unsigned_abs z) (sign_utf8 f z) h
signed_utf8 v f z complement h k = unsigned_utf8 f complement k

character_utf8 : (f : ConversionSpecifier) (c : ℕ) → IsScalar c → IsText (character_text f c)
character_utf8 f c is = with_number_utf8 (number_of f.width) (λ width. Ok (filled_word f (width - length (encode_utf8 c)) (encode_utf8 c)))
    (λ width. word_by f.left_adj (width - length (encode_utf8 c)) (encode_utf8 c) (IsUtf8-encode c is))

where_utf8 : (has : Bool) (f : ConversionSpecifier) (c : ℕ) → (has ≡ true → IsScalar c) → IsText (character_where has f c)
where_utf8 true f c is = character_utf8 f c (is refl)
where_utf8 false f c is = IsUtf8-nil

signed_character_utf8 : (f : ConversionSpecifier) (z : ℤ) → FitsSigned w8 z → IsText (signed_character f z)
signed_character_utf8 f (pos c) fits = character_utf8 f c (low_scalar c (omega (arith, fits.sfits)))
signed_character_utf8 f (negsuc n) fits = IsUtf8-nil

-- A word that fits isn't cut.
word_utf8 : (f : ConversionSpecifier) (text : List ℕ) → f.precision ≡ Literal (pos 2147483647) → length text ≤ 2147483647 → IsUtf8 text → IsText (word_text f text)
word_utf8 f text whole short utf8 =
    with_number_utf8 (number_of f.width) (λ width. with_number (number_of f.precision) (λ precision. Ok (filled_word f (width - length (cut_to precision text)) (cut_to precision text))))
    (λ width. rw (whole, uncut 2147483647 text short) (word_by f.left_adj (width - length text) text utf8))

-- The text of the conversion's answer, where each of the three is UTF-8.
answer : (v : ConversionType) (a b d : Result (List ℕ) PrintfError) → IsText a → IsText b → IsText d → IsText (by_conversion v a b d)
answer DecInt a b d h k l = h
answer OctInt a b d h k l = h
answer HexIntLower a b d h k l = h
answer HexIntUpper a b d h k l = h
answer CharConversion a b d h k l = k
answer StringConversion a b d h k l = l
answer v a b d h k l = IsUtf8-nil

-- A refusal.
abbrev Refused : Result (List ℕ) PrintfError
Refused = Err WrongType

code_utf8 : (f : ConversionSpecifier) (has : Bool) (n : ℕ) → n < 2 ^ 64 → (has ≡ true → IsScalar n) → IsText (by_conversion f.conversion_type (unsigned_text f n) (character_where has f n) Refused)
code_utf8 f has n small is = answer f.conversion_type (unsigned_text f n) (character_where has f n) Refused (unsigned_utf8 f n (omega arith)) (where_utf8 has f n is) IsUtf8-nil

only_unsigned : (f : ConversionSpecifier) (n : ℕ) → n < 2 ^ 64 → IsText (by_conversion f.conversion_type (unsigned_text f n) Refused Refused)
only_unsigned f n small = answer f.conversion_type (unsigned_text f n) Refused Refused (unsigned_utf8 f n (omega arith)) IsUtf8-nil IsUtf8-nil

absolute_wide : (w : Width) (z : ℤ) → FitsSigned w z → unsigned_abs z < 2 ^ 128
absolute_wide w8 (pos n) h = omega (arith, h.sfits)
absolute_wide w16 (pos n) h = omega (arith, h.sfits)
absolute_wide w32 (pos n) h = omega (arith, h.sfits)
absolute_wide w64 (pos n) h = omega (arith, h.sfits)
absolute_wide w128 (pos n) h = omega (arith, h.sfits)
absolute_wide w8 (negsuc n) h = omega (arith, h.sfits)
absolute_wide w16 (negsuc n) h = omega (arith, h.sfits)
absolute_wide w32 (negsuc n) h = omega (arith, h.sfits)
absolute_wide w64 (negsuc n) h = omega (arith, h.sfits)
absolute_wide w128 (negsuc n) h = omega (arith, h.sfits)

bits_wide : (w : Width) (n : ℕ) → n < 2 ^ bits w → n < 2 ^ 128
bits_wide w8 n h = omega arith
bits_wide w16 n h = omega arith
bits_wide w32 n h = omega arith
bits_wide w64 n h = omega arith
bits_wide w128 n h = h

integer_utf8 : (f : ConversionSpecifier) (w : Width) (z : ℤ) → FitsSigned w z → IsText (signed_text f.conversion_type f z (cast_unsigned w z))
integer_utf8 f w z h = signed_utf8 f.conversion_type f z (cast_unsigned w z) (absolute_wide w z h) (bits_wide w (cast_unsigned w z) (Fits-of_z {w = w} {z = z} h).fits)

only_signed : (f : ConversionSpecifier) (w : Width) (z : ℤ) → FitsSigned w z → IsText (by_conversion f.conversion_type (signed_text f.conversion_type f z (cast_unsigned w z)) Refused Refused)
only_signed f w z h = answer f.conversion_type (signed_text f.conversion_type f z (cast_unsigned w z)) Refused Refused (integer_utf8 f w z h) IsUtf8-nil IsUtf8-nil

-- The text of a field over a value that fits is UTF-8.
pub field_utf8 : (c : Column) (kind : Kind) (value : Datum) → ¬ IsLossy (c ∷ []) (kind ∷ []) → IsFit c kind value → IsUtf8 (field_text c.field kind value)
field_utf8 c U8 (natural n) whole fit = code_utf8 c.field (nat_lt n 128) n (let small : n < 2 ^ 8 = fit.0 in omega arith) (λ e. low_scalar n (omega (arith, ltb-true n 128 e)))
field_utf8 c U16 (natural n) whole fit = code_utf8 c.field (scalar n) n (let small : n < 2 ^ 16 = fit.0 in omega arith) (λ e. e)
field_utf8 c U32 (natural n) whole fit = code_utf8 c.field (scalar n) n (let small : n < 2 ^ 32 = fit.0 in omega arith) (λ e. e)
field_utf8 c U64 (natural n) whole fit = only_unsigned c.field n fit.0
field_utf8 c Usize (natural n) whole fit = only_unsigned c.field n fit.0
field_utf8 c I8 (integer z) whole fit =
    let v = c.field.conversion_type in
    answer v (signed_text v c.field z (cast_unsigned w8 z)) (signed_character c.field z) Refused (integer_utf8 c.field w8 z fit.0) (signed_character_utf8 c.field z fit.0) IsUtf8-nil
field_utf8 c I16 (integer z) whole fit = only_signed c.field w16 z fit.0
field_utf8 c I32 (integer z) whole fit = only_signed c.field w32 z fit.0
field_utf8 c I64 (integer z) whole fit = only_signed c.field w64 z fit.0
field_utf8 c Isize (integer z) whole fit = only_signed c.field w64 z fit.0
field_utf8 c Word (word text) whole fit =
    answer c.field.conversion_type Refused Refused (word_text c.field text) IsUtf8-nil IsUtf8-nil
    (word_utf8 c.field text (precise c.field.precision whole) fit.1.1 fit.0)
field_utf8 c Char (character x) whole fit =
    answer c.field.conversion_type Refused (character_text c.field x) Refused IsUtf8-nil (character_utf8 c.field x fit.0) IsUtf8-nil
field_utf8 c kind value whole fit = absurd fit.0
