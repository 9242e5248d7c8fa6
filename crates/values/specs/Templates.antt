-- What values are to the templates in braces: what they print under a specification of strfmt, and how formatx sees them.
use Rattle.std.specs.Prelude.{ℕ, ℤ, pos, List, encode_utf8}
use Rattle.std.specs.Int.{Width, w8, w16, w32, w64, cast_unsigned}
use Rattle.strfmt.specs.Field.{integer_field, signed, text_field, unsigned}
use Rattle.strfmt.specs.Text.{Meaning}
use Rattle.formatx.specs.Values.{Meaning as FormatxMeaning, integer_meaning, str_meaning, char_meaning}
use Rattle.values.specs.declared.kind.Kind.{Kind}
use Rattle.values.specs.declared.kind.Kind.TheVariants.{U8, U16, U32, U64, Usize, I8, I16, I32, I64, Isize, Word, Char}
use Rattle.values.specs.declared.value.Value.{Value}
use Rattle.values.specs.Datum.{Datum, natural, integer, word, character, kind_of, datum_of}

-- The width of a signed number's type; other kinds have none, and the narrowest stands for it.
abbrev pub signed_width : Kind → Width
signed_width I8 = w8
signed_width I16 = w16
signed_width I32 = w32
signed_width I64 = w64
signed_width Isize = w64
signed_width _ = w8

-- What a value of the kind prints under a specification of strfmt: an integer, or a text.
abbrev pub strfmt_meaning : Kind → Datum → Meaning
strfmt_meaning kind (natural n) spec = integer_field spec (unsigned n)
strfmt_meaning kind (integer z) spec = integer_field spec (signed (signed_width kind) z)
strfmt_meaning kind (word text) spec = text_field spec text
strfmt_meaning kind (character c) spec = text_field spec (encode_utf8 c)

-- What a value of the kind is to a template of formatx: an integer, a text, or a character.
abbrev pub formatx_meaning : Kind → Datum → FormatxMeaning
formatx_meaning kind (natural n) = integer_meaning (pos n) n
formatx_meaning kind (integer z) = integer_meaning z (cast_unsigned (signed_width kind) z)
formatx_meaning kind (word text) = str_meaning text
formatx_meaning kind (character c) = char_meaning c

-- What a value prints under a specification of strfmt.
abbrev pub value_display : Value → Meaning
value_display value = strfmt_meaning (kind_of value) (datum_of value)

-- What a value is to a template of formatx.
abbrev pub value_format : Value → FormatxMeaning
value_format value = formatx_meaning (kind_of value) (datum_of value)
