-- The text of a field. Widths and precisions count bytes.
use Rattle.std.specs.Prelude.{ℕ, ◌+◌, ◌-◌, min, ℤ, pos, negsuc, true, false, if◌then◌else◌, List, [], ◌++◌, length, take, codes, unsigned_abs, encode_utf8, Option, Some, None, Result, Ok, Err}
use Rattle.std.specs.Fmt.Cut.{floor_char_boundary}
use Rattle.std.specs.Str.{byte}
use Rattle.numerals.specs.Numeral.{numeral}
use Rattle.padding.specs.Field.{fills}
use Rattle.sprintf.specs.declared.PrintfError.{PrintfError}
use Rattle.sprintf.specs.declared.PrintfError.TheVariants.{Unknown}
use Rattle.sprintf.specs.declared.parser.ConversionSpecifier.{ConversionSpecifier}
use Rattle.sprintf.specs.declared.parser.ConversionType.{ConversionType}
use Rattle.sprintf.specs.declared.parser.ConversionType.TheVariants.{DecInt, OctInt, HexIntLower, HexIntUpper}
use Rattle.sprintf.specs.declared.parser.NumericParam.{NumericParam}
use Rattle.sprintf.specs.declared.parser.NumericParam.TheVariants.{Literal, FromArgument}

-- a number's field: under `-` the room that the width leaves is behind, else under `0` it is zeros, else it is in front
abbrev pub filled_number : ConversionSpecifier → ℕ → List ℕ → List ℕ → List ℕ
filled_number f room lead digits = if f.left_adj then lead ++ digits ++ fills room (byte " ") else (if f.zero_pad then lead ++ fills room (byte "0") ++ digits else fills room (byte " ") ++ lead ++ digits)

-- the field of a character or a word: under `-` the room is behind, else in front
abbrev pub filled_word : ConversionSpecifier → ℕ → List ℕ → List ℕ
filled_word f room word = if f.left_adj then word ++ fills room (byte " ") else fills room (byte " ") ++ word

-- the sign of a signed number in decimal
abbrev pub sign_of : ConversionSpecifier → ℤ → List ℕ
sign_of f (negsuc n) = codes "-"
sign_of f (pos n) = if f.force_sign then codes "+" else (if f.space_sign then codes " " else [])

-- the prefix that `#` puts before the digits, on every value
abbrev pub prefix_of : ConversionType → List ℕ
prefix_of OctInt = codes "0"
prefix_of HexIntLower = codes "0x"
prefix_of HexIntUpper = codes "0X"
prefix_of _ = []

-- the digits of a number
abbrev pub digits_of : ConversionType → ℕ → List ℕ
digits_of OctInt n = numeral 8 false n
digits_of HexIntLower n = numeral 16 false n
digits_of HexIntUpper n = numeral 16 true n
digits_of _ n = numeral 10 false n

-- the longest front of whole characters that has at most so many bytes
abbrev pub cut_to : ℕ → List ℕ → List ℕ
cut_to precision word = take (floor_char_boundary word (min precision (length word))) word

-- a width or a precision as a number: a negative one counts as 0, and one that an argument has yet to give is none
abbrev pub number_of : NumericParam → Option ℕ
number_of (Literal (pos n)) = Some n
number_of (Literal (negsuc n)) = Some 0
number_of FromArgument = None

-- what goes by such a number; without it the field is refused
abbrev pub with_number : Option ℕ → (ℕ → Result (List ℕ) PrintfError) → Result (List ℕ) PrintfError
with_number (Some n) text = text n
with_number None text = Err Unknown

-- a number under a conversion to digits, behind a sign or a prefix
abbrev pub number_text : ConversionSpecifier → List ℕ → ℕ → Result (List ℕ) PrintfError
number_text f lead n =
    let digits = digits_of f.conversion_type n in
    with_number (number_of f.width) (λ width. Ok (filled_number f (width - (length lead + length digits)) lead digits))

-- an unsigned number, which has no sign
abbrev pub unsigned_text : ConversionSpecifier → ℕ → Result (List ℕ) PrintfError
unsigned_text f n = number_text f (if f.alt_form then prefix_of f.conversion_type else []) n

-- a signed number: in decimal its sign and its absolute value, else its two's complement
abbrev pub signed_text : ConversionType → ConversionSpecifier → ℤ → ℕ → Result (List ℕ) PrintfError
signed_text DecInt f z complement = number_text f (sign_of f z) (unsigned_abs z)
signed_text _ f z complement = unsigned_text f complement

-- a character, which no precision cuts
abbrev pub character_text : ConversionSpecifier → ℕ → Result (List ℕ) PrintfError
character_text f c = with_number (number_of f.width) (λ width. Ok (filled_word f (width - length (encode_utf8 c)) (encode_utf8 c)))

-- a word, cut to its precision
abbrev pub word_text : ConversionSpecifier → List ℕ → Result (List ℕ) PrintfError
word_text f word = with_number (number_of f.width) (λ width. with_number (number_of f.precision) (λ precision. Ok (filled_word f (width - length (cut_to precision word)) (cut_to precision word))))
