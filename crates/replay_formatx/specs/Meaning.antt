-- What a value of a line means to formatx.
use Rattle.std.specs.Prelude.{string_bytes, pos}
use Rattle.std.specs.Int.{w8, w16, w32, w64, w128, cast_unsigned}
use Rattle.replay.specs.declared.typed.Value.{Value}
use Rattle.replay.specs.declared.typed.Value.TheVariants.{U8, U16, U32, U64, U128, Usize, I8, I16, I32, I64, I128, Isize, Bool as of_bool, Char, Str, String}
use Rattle.formatx.specs.Values.{Meaning, integer_meaning, bool_meaning, char_meaning, str_meaning}

-- what a value is to a template of formatx
abbrev pub shown : Value → Meaning
shown (U8 n) = integer_meaning (pos n) n
shown (U16 n) = integer_meaning (pos n) n
shown (U32 n) = integer_meaning (pos n) n
shown (U64 n) = integer_meaning (pos n) n
shown (U128 n) = integer_meaning (pos n) n
shown (Usize n) = integer_meaning (pos n) n
shown (I8 z) = integer_meaning z (cast_unsigned w8 z)
shown (I16 z) = integer_meaning z (cast_unsigned w16 z)
shown (I32 z) = integer_meaning z (cast_unsigned w32 z)
shown (I64 z) = integer_meaning z (cast_unsigned w64 z)
shown (I128 z) = integer_meaning z (cast_unsigned w128 z)
shown (Isize z) = integer_meaning z (cast_unsigned w64 z)
shown (of_bool b) = bool_meaning b
shown (Char c) = char_meaning c
shown (Str text) = str_meaning (string_bytes text)
shown (String text) = str_meaning (string_bytes text)
