-- What the values of each carried type are to a format: which conversions they take, and with what text.
use Rattle.std.specs.Prelude.{◌≡◌, ℕ, ◌^◌, ℤ, pos, negsuc, Bool, true, if◌then◌else◌, nat_lt, List, Option, Some, None, Result, Err}
use Rattle.std.specs.Int.{Width, w8, w16, w32, w64, cast_unsigned}
use Rattle.std.proofs.Math.Utf8.{scalar}
use Rattle.sprintf.specs.declared.PrintfError.{PrintfError}
use Rattle.sprintf.specs.declared.PrintfError.TheVariants.{WrongType}
use Rattle.sprintf.specs.declared.arg.Arg.{Arg}
use Rattle.sprintf.specs.declared.arg.Arg.TheVariants.{U8, U16, U32, U64, Usize, I8, I16, I32, I64, Isize, Char, Str}
use Rattle.sprintf.specs.declared.parser.ConversionSpecifier.{ConversionSpecifier}
use Rattle.sprintf.specs.Field.{unsigned_text, signed_text, character_text, word_text}
use Rattle.sprintf.specs.Meaning.{Meaning, by_conversion}

-- the number where an i32 holds it
abbrev pub as_i32 : ℤ → Option ℤ
as_i32 (pos n) = if nat_lt n 2147483648 then Some (pos n) else None
as_i32 (negsuc n) = if nat_lt n 2147483648 then Some (negsuc n) else None

-- `%c` of a number that has a character, and of one that has none
abbrev pub character_where : Bool → ConversionSpecifier → ℕ → Result (List ℕ) PrintfError
character_where has f c = if has then character_text f c else Err WrongType

-- `%c` of an i8, which is a character from 0 on
abbrev pub signed_character : ConversionSpecifier → ℤ → Result (List ℕ) PrintfError
signed_character f (pos c) = character_text f c
signed_character f (negsuc n) = Err WrongType

-- u8: its characters are ASCII
abbrev pub u8_meaning : ℕ → Meaning
u8_meaning n = record { text = λ f. by_conversion f.conversion_type (unsigned_text f n) (character_where (nat_lt n 128) f n) (Err WrongType); int = as_i32 (pos n) }

-- u16 and u32
abbrev pub code_meaning : ℕ → Meaning
code_meaning n = record { text = λ f. by_conversion f.conversion_type (unsigned_text f n) (character_where (scalar n) f n) (Err WrongType); int = as_i32 (pos n) }

-- u64 and usize
abbrev pub unsigned_meaning : ℕ → Meaning
unsigned_meaning n = record { text = λ f. by_conversion f.conversion_type (unsigned_text f n) (Err WrongType) (Err WrongType); int = as_i32 (pos n) }

abbrev pub i8_meaning : ℤ → Meaning
i8_meaning z = record { text = λ f. by_conversion f.conversion_type (signed_text f.conversion_type f z (cast_unsigned w8 z)) (signed_character f z) (Err WrongType); int = as_i32 z }

-- the other signed types, by their width
abbrev pub signed_meaning : Width → ℤ → Meaning
signed_meaning w z = record { text = λ f. by_conversion f.conversion_type (signed_text f.conversion_type f z (cast_unsigned w z)) (Err WrongType) (Err WrongType); int = as_i32 z }

abbrev pub char_meaning : ℕ → Meaning
char_meaning c = record { text = λ f. by_conversion f.conversion_type (Err WrongType) (character_text f c) (Err WrongType); int = None }

-- &str and String
abbrev pub word_meaning : List ℕ → Meaning
word_meaning word = record { text = λ f. by_conversion f.conversion_type (Err WrongType) (Err WrongType) (word_text f word); int = None }

-- a value of a mixed list
abbrev pub arg_meaning : Arg → Meaning
arg_meaning (U8 n) = u8_meaning n
arg_meaning (U16 n) = code_meaning n
arg_meaning (U32 n) = code_meaning n
arg_meaning (U64 n) = unsigned_meaning n
arg_meaning (Usize n) = unsigned_meaning n
arg_meaning (I8 z) = i8_meaning z
arg_meaning (I16 z) = signed_meaning w16 z
arg_meaning (I32 z) = signed_meaning w32 z
arg_meaning (I64 z) = signed_meaning w64 z
arg_meaning (Isize z) = signed_meaning w64 z
arg_meaning (Char c) = char_meaning c
arg_meaning (Str s) = word_meaning s.now

-- the value is this text
abbrev pub IsText : Arg → List ℕ → Type 0
IsText (Str s) bytes = s.now ≡ bytes
IsText _ bytes = ⊥
