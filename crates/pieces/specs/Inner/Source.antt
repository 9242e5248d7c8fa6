-- What a field of a printf format takes from a token.
use Rattle.std.specs.Prelude.{◌≡◌, ◌^◌, ℕ, ℤ, List, slice_range, Option, Some, None}
use Rattle.std.specs.Int.{Width, w8, w16, w32, w64, cast_signed, cast_unsigned}
use mir.Val.{bits}
use Rattle.sprintf.specs.declared.parser.ConversionType.{ConversionType}
use Rattle.sprintf.specs.declared.parser.ConversionType.TheVariants.{DecInt, OctInt, HexIntLower, HexIntUpper, SciFloatLower, SciFloatUpper, DecFloatLower, DecFloatUpper, CompactFloatLower, CompactFloatUpper, Char, String, PercentSign}
use Rattle.sprintf.specs.Meaning.{Meaning}
use Rattle.sprintf.specs.Values.{unsigned_meaning, signed_meaning, word_meaning}
use Rattle.values.specs.declared.kind.Kind.{Kind}
use Rattle.values.specs.declared.kind.Kind.TheVariants as Of
use Rattle.tokens.specs.declared.Token.{Token}
use Rattle.pieces.specs.declared.source.Source.{Source}
use Rattle.pieces.specs.declared.source.Source.TheVariants.{Natural, Integer, Complement8, Complement16, Complement32, Complement64, Text}

-- What a field in decimal takes: a number as it is.
abbrev pub decimal_source : Kind → Option Source
decimal_source Of.U8 = Some Natural
decimal_source Of.U16 = Some Natural
decimal_source Of.U32 = Some Natural
decimal_source Of.U64 = Some Natural
decimal_source Of.Usize = Some Natural
decimal_source Of.I8 = Some Integer
decimal_source Of.I16 = Some Integer
decimal_source Of.I32 = Some Integer
decimal_source Of.I64 = Some Integer
decimal_source Of.Isize = Some Integer
decimal_source Of.Word = None
decimal_source Of.Char = None

-- What a field in base 8 or 16 takes: a number with a sign as its two's complement.
abbrev pub bits_source : Kind → Option Source
bits_source Of.U8 = Some Natural
bits_source Of.U16 = Some Natural
bits_source Of.U32 = Some Natural
bits_source Of.U64 = Some Natural
bits_source Of.Usize = Some Natural
bits_source Of.I8 = Some Complement8
bits_source Of.I16 = Some Complement16
bits_source Of.I32 = Some Complement32
bits_source Of.I64 = Some Complement64
bits_source Of.Isize = Some Complement64
bits_source Of.Word = None
bits_source Of.Char = None

-- What a field of text takes: a word.
abbrev pub word_source : Kind → Option Source
word_source Of.U8 = None
word_source Of.U16 = None
word_source Of.U32 = None
word_source Of.U64 = None
word_source Of.Usize = None
word_source Of.I8 = None
word_source Of.I16 = None
word_source Of.I32 = None
word_source Of.I64 = None
word_source Of.Isize = None
word_source Of.Word = Some Text
word_source Of.Char = None

-- What a field of the conversion takes from a token of the kind, if it refuses no value of the kind.
abbrev pub source_of : ConversionType → Kind → Option Source
source_of DecInt kind = decimal_source kind
source_of OctInt kind = bits_source kind
source_of HexIntLower kind = bits_source kind
source_of HexIntUpper kind = bits_source kind
source_of String kind = word_source kind
source_of SciFloatLower kind = None
source_of SciFloatUpper kind = None
source_of DecFloatLower kind = None
source_of DecFloatUpper kind = None
source_of CompactFloatLower kind = None
source_of CompactFloatUpper kind = None
source_of Char kind = None
source_of PercentSign kind = None

-- The value of a token, as the field sees it.
abbrev pub source_meaning : Source → List ℕ → Token → Meaning
source_meaning Natural row token = unsigned_meaning token.number
source_meaning Integer row token = signed_meaning w64 (cast_signed w64 token.number)
source_meaning Complement8 row token = unsigned_meaning (cast_unsigned w8 (cast_signed w64 token.number))
source_meaning Complement16 row token = unsigned_meaning (cast_unsigned w16 (cast_signed w64 token.number))
source_meaning Complement32 row token = unsigned_meaning (cast_unsigned w32 (cast_signed w64 token.number))
source_meaning Complement64 row token = unsigned_meaning (cast_unsigned w64 (cast_signed w64 token.number))
source_meaning Text row token = word_meaning (slice_range row token.start token.end)

-- The bits are the number's two's complement in the width of which `bound` is the power of two.
abbrev pub IsComplement : ℤ → ℕ → ℕ → Type 0
IsComplement number bound complement = (w : Width) → bound ≡ 2 ^ bits w → complement ≡ cast_unsigned w number
