-- What a value of a line means to strfmt.
use Rattle.std.specs.Prelude.{ℕ, List, Bool, codes, encode_utf8, string_bytes, if◌then◌else◌}
use Rattle.std.specs.Int.{w8, w16, w32, w64, w128}
use Rattle.replay.specs.declared.typed.Value.{Value}
use Rattle.replay.specs.declared.typed.Value.TheVariants.{U8, U16, U32, U64, U128, Usize, I8, I16, I32, I64, I128, Isize, Bool as of_bool, Char, Str, String}
use Rattle.strfmt.specs.Field.{text_field, integer_field, unsigned, signed}
use Rattle.strfmt.specs.Text.{Meaning}

-- the text of a flag
abbrev pub flag_text : Bool → List ℕ
flag_text flag = if flag then codes "true" else codes "false"

-- what a value displays in a field of strfmt
abbrev pub displayed : Value → Meaning
displayed (U8 n) spec = integer_field spec (unsigned n)
displayed (U16 n) spec = integer_field spec (unsigned n)
displayed (U32 n) spec = integer_field spec (unsigned n)
displayed (U64 n) spec = integer_field spec (unsigned n)
displayed (U128 n) spec = integer_field spec (unsigned n)
displayed (Usize n) spec = integer_field spec (unsigned n)
displayed (I8 z) spec = integer_field spec (signed w8 z)
displayed (I16 z) spec = integer_field spec (signed w16 z)
displayed (I32 z) spec = integer_field spec (signed w32 z)
displayed (I64 z) spec = integer_field spec (signed w64 z)
displayed (I128 z) spec = integer_field spec (signed w128 z)
displayed (Isize z) spec = integer_field spec (signed w64 z)
displayed (of_bool b) spec = text_field spec (flag_text b)
displayed (Char c) spec = text_field spec (encode_utf8 c)
displayed (Str text) spec = text_field spec (string_bytes text)
displayed (String text) spec = text_field spec (string_bytes text)
