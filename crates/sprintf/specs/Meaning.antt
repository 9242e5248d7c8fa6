-- What a value is to a format.
use Rattle.std.specs.Prelude.{ℕ, ℤ, List, Option, Result, Err}
use Rattle.sprintf.specs.declared.PrintfError.{PrintfError}
use Rattle.sprintf.specs.declared.PrintfError.TheVariants.{WrongType}
use Rattle.sprintf.specs.declared.parser.ConversionSpecifier.{ConversionSpecifier}
use Rattle.sprintf.specs.declared.parser.ConversionType.{ConversionType}
use Rattle.sprintf.specs.declared.parser.ConversionType.TheVariants.{DecInt, OctInt, HexIntLower, HexIntUpper, Char, String}

-- its text under each specification, or the refusal; and the number that it gives to a `*`, if any
pub record Meaning : Type 0 where
  pub text : ConversionSpecifier → Result (List ℕ) PrintfError
  pub int : Option ℤ

-- the answer by the conversion: one for the conversions to digits, one for `%c`, one for `%s`; no value takes another
abbrev pub by_conversion : ConversionType → Result (List ℕ) PrintfError → Result (List ℕ) PrintfError → Result (List ℕ) PrintfError → Result (List ℕ) PrintfError
by_conversion DecInt digits character word = digits
by_conversion OctInt digits character word = digits
by_conversion HexIntLower digits character word = digits
by_conversion HexIntUpper digits character word = digits
by_conversion Char digits character word = character
by_conversion String digits character word = word
by_conversion _ digits character word = Err WrongType
