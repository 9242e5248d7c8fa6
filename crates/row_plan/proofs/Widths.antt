-- The text of a field is at least as long as its width.
use Rattle.std.proofs.Common.{◌≡◌, ◌≢◌, ℕ, zero, suc, ◌+◌, ◌-◌, ◌≤◌, Bool, true, false, cond, ℤ, pos, negsuc, List, ◌++◌, length, Some, Result, encode_utf8, refl, arith, length-append}
use Rattle.std.proofs.lemmas.Str.{length-encode}
use Rattle.padding.specs.Field.{fills}
use Rattle.sprintf.specs.declared.PrintfError.{PrintfError}
use Rattle.sprintf.specs.declared.parser.ConversionSpecifier.{ConversionSpecifier}
use Rattle.sprintf.specs.declared.parser.ConversionType.{ConversionType}
use Rattle.sprintf.specs.declared.parser.ConversionType.TheVariants.{DecInt, OctInt, HexIntLower, HexIntUpper, Char as CharConversion, String}
use Rattle.sprintf.specs.declared.parser.NumericParam.{NumericParam}
use Rattle.sprintf.specs.declared.parser.NumericParam.TheVariants.{Literal, FromArgument}
use Rattle.sprintf.specs.Field.{filled_number, filled_word, number_of, number_text, signed_text, character_text, word_text, digits_of, cut_to}
use Rattle.sprintf.specs.Meaning.{by_conversion}
use Rattle.values.specs.declared.kind.Kind.{Kind}
use Rattle.values.specs.declared.kind.Kind.TheVariants.{U8, U16, U32, U64, Usize, I8, I16, I32, I64, Isize, Word, Char}
use Rattle.values.specs.Datum.{Datum, natural, integer, word, character, IsOfKind, printf_meaning}
use Rattle.row_format.specs.Columns.{Column, field_text, width_of}
use Rattle.row_format.specs.Inner.Elements.{text_or_none}
use Rattle.row_format.specs.Plannable.{is_number, Converts}

-- an answer is a text of at least this length
abbrev pub IsWide : ℕ → Result (List ℕ) PrintfError → Type 0
IsWide width answer = width ≤ length (text_or_none answer)

-- a width or a precision that is a number
abbrev pub IsLiteral : NumericParam → Type 0
IsLiteral (Literal z) = Unit {0}
IsLiteral FromArgument = ⊥

is_literal : (p : NumericParam) → p ≢ FromArgument → IsLiteral p
is_literal (Literal z) h = tt
is_literal FromArgument h = h refl

number_told : (p : NumericParam) → IsLiteral p → (w : ℕ) × (number_of p ≡ Some w)
number_told (Literal (pos n)) h = (n, refl)
number_told (Literal (negsuc n)) h = (0, refl)
number_told FromArgument h = absurd h

-- one character of one byte, so many times
length-fills : (count c : ℕ) → length (encode_utf8 c) ≡ 1 → length (fills count c) ≡ count
length-fills zero c e = refl
length-fills (suc count) c e = omega (arith, length-append (encode_utf8 c) (fills count c), e, length-fills count c e)

three_len : (a b c : List ℕ) → length (a ++ b ++ c) ≡ length a + length b + length c
three_len a b c = omega (arith, length-append (a ++ b) c, length-append a b)

number_by : (left zero_pad : Bool) (room : ℕ) (lead digits : List ℕ) → length (cond left (lead ++ digits ++ fills room 32) (cond zero_pad (lead ++ fills room 48 ++ digits) (fills room 32 ++ lead ++ digits))) ≡ length lead + length digits + room
number_by true z room lead digits = omega (arith, three_len lead digits (fills room 32), length-fills room 32 (length-encode 32))
number_by false true room lead digits = omega (arith, three_len lead (fills room 48) digits, length-fills room 48 (length-encode 48))
number_by false false room lead digits = omega (arith, three_len (fills room 32) lead digits, length-fills room 32 (length-encode 32))

number_len : (f : ConversionSpecifier) (width : ℕ) (lead digits : List ℕ) → width ≤ length (filled_number f (width - (length lead + length digits)) lead digits)
number_len f width lead digits = omega (arith, number_by f.left_adj f.zero_pad (width - (length lead + length digits)) lead digits)

word_by : (left : Bool) (room : ℕ) (text : List ℕ) → length (cond left (text ++ fills room 32) (fills room 32 ++ text)) ≡ length text + room
word_by true room text = omega (arith, length-append text (fills room 32), length-fills room 32 (length-encode 32))
word_by false room text = omega (arith, length-append (fills room 32) text, length-fills room 32 (length-encode 32))

word_len : (f : ConversionSpecifier) (width : ℕ) (text : List ℕ) → width ≤ length (filled_word f (width - length text) text)
word_len f width text = omega (arith, word_by f.left_adj (width - length text) text)

number_wide : (f : ConversionSpecifier) (lead : List ℕ) (n : ℕ) → IsLiteral f.width → IsWide (width_of f) (number_text f lead n)
number_wide f lead n h = let w = number_told f.width h in rw w.1 (number_len f w.0 lead (digits_of f.conversion_type n))

signed_wide : (conversion : ConversionType) (f : ConversionSpecifier) (z : ℤ) (n : ℕ) → IsLiteral f.width → IsWide (width_of f) (signed_text conversion f z n)
signed_wide DecInt f z n h = number_wide f _ _ h
signed_wide _ f z n h = number_wide f _ n h

character_wide : (f : ConversionSpecifier) (c : ℕ) → IsLiteral f.width → IsWide (width_of f) (character_text f c)
character_wide f c h = let w = number_told f.width h in rw w.1 (word_len f w.0 (encode_utf8 c))

word_wide : (f : ConversionSpecifier) (text : List ℕ) → IsLiteral f.width → IsLiteral f.precision → IsWide (width_of f) (word_text f text)
word_wide f text h k = let w = number_told f.width h in let p = number_told f.precision k in rw (w.1, p.1) (word_len f w.0 (cut_to p.0 text))

no_char : (kind : Kind) → is_number kind ≡ true → kind ≢ Char
no_char kind h e = let both : is_number Char ≡ true = rw e at h in cc

no_word : (kind : Kind) → is_number kind ≡ true → kind ≢ Word
no_word kind h e = let both : is_number Word ≡ true = rw e at h in cc

by_digits : (width : ℕ) (conversion : ConversionType) (kind : Kind) (d c w : Result (List ℕ) PrintfError) → Converts conversion kind → is_number kind ≡ true → IsWide width d → IsWide width (by_conversion conversion d c w)
by_digits width DecInt kind d c w so n h = h
by_digits width OctInt kind d c w so n h = h
by_digits width HexIntLower kind d c w so n h = h
by_digits width HexIntUpper kind d c w so n h = h
by_digits width CharConversion kind d c w so n h = absurd (no_char kind n so)
by_digits width String kind d c w so n h = absurd (no_word kind n so)
by_digits width _ kind d c w so n h = absurd so

by_word : (width : ℕ) (conversion : ConversionType) (d c w : Result (List ℕ) PrintfError) → Converts conversion Word → IsWide width w → IsWide width (by_conversion conversion d c w)
by_word width DecInt d c w so h = cc
by_word width OctInt d c w so h = cc
by_word width HexIntLower d c w so h = cc
by_word width HexIntUpper d c w so h = cc
by_word width CharConversion d c w so h = cc
by_word width String d c w so h = h
by_word width _ d c w so h = absurd so

by_char : (width : ℕ) (conversion : ConversionType) (d c w : Result (List ℕ) PrintfError) → Converts conversion Char → IsWide width c → IsWide width (by_conversion conversion d c w)
by_char width DecInt d c w so h = cc
by_char width OctInt d c w so h = cc
by_char width HexIntLower d c w so h = cc
by_char width HexIntUpper d c w so h = cc
by_char width CharConversion d c w so h = h
by_char width String d c w so h = cc
by_char width _ d c w so h = absurd so

value_wide : (kind : Kind) (value : Datum) (f : ConversionSpecifier) → IsOfKind kind value → Converts f.conversion_type kind → IsLiteral f.width → IsLiteral f.precision → IsWide (width_of f) ((printf_meaning kind value).text f)
value_wide U8 (natural n) f is so w p = by_digits (width_of f) f.conversion_type U8 _ _ _ so refl (number_wide f _ n w)
value_wide U16 (natural n) f is so w p = by_digits (width_of f) f.conversion_type U16 _ _ _ so refl (number_wide f _ n w)
value_wide U32 (natural n) f is so w p = by_digits (width_of f) f.conversion_type U32 _ _ _ so refl (number_wide f _ n w)
value_wide U64 (natural n) f is so w p = by_digits (width_of f) f.conversion_type U64 _ _ _ so refl (number_wide f _ n w)
value_wide Usize (natural n) f is so w p = by_digits (width_of f) f.conversion_type Usize _ _ _ so refl (number_wide f _ n w)
value_wide I8 (integer z) f is so w p = by_digits (width_of f) f.conversion_type I8 _ _ _ so refl (signed_wide f.conversion_type f z _ w)
value_wide I16 (integer z) f is so w p = by_digits (width_of f) f.conversion_type I16 _ _ _ so refl (signed_wide f.conversion_type f z _ w)
value_wide I32 (integer z) f is so w p = by_digits (width_of f) f.conversion_type I32 _ _ _ so refl (signed_wide f.conversion_type f z _ w)
value_wide I64 (integer z) f is so w p = by_digits (width_of f) f.conversion_type I64 _ _ _ so refl (signed_wide f.conversion_type f z _ w)
value_wide Isize (integer z) f is so w p = by_digits (width_of f) f.conversion_type Isize _ _ _ so refl (signed_wide f.conversion_type f z _ w)
value_wide Word (word text) f is so w p = by_word (width_of f) f.conversion_type _ _ _ so (word_wide f text w p)
value_wide Char (character c) f is so w p = by_char (width_of f) f.conversion_type _ _ _ so (character_wide f c w)
value_wide _ _ f is so w p = absurd is

-- the conversion goes with the kind, and neither width nor precision is `*`
pub field_wide : (c : Column) (kind : Kind) (value : Datum) → IsOfKind kind value → Converts c.field.conversion_type kind → c.field.width ≢ FromArgument → c.field.precision ≢ FromArgument → width_of c.field ≤ length (field_text c.field kind value)
field_wide c kind value is so w p = value_wide kind value c.field is so (is_literal c.field.width w) (is_literal c.field.precision p)
