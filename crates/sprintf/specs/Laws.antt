-- The laws of the printf formats.
use Rattle.std.specs.Prelude.{◌≡◌, ◌≢◌, ℕ, ◌≤◌, pos, List, length, All, Ok, Err}
use Rattle.std.specs.List.{AllZip}
use Rattle.sprintf.specs.declared.PrintfError.{PrintfError}
use Rattle.sprintf.specs.declared.PrintfError.TheVariants.{WrongType, TooManyArgs, NotEnoughArgs}
use Rattle.sprintf.specs.declared.arg.Arg.{Arg}
use Rattle.sprintf.specs.declared.parser.ConversionSpecifier.{ConversionSpecifier}
use Rattle.sprintf.specs.declared.parser.FormatElement.{FormatElement}
use Rattle.sprintf.specs.declared.parser.NumericParam.TheVariants.{Literal, FromArgument}
use Rattle.sprintf.specs.Grammar.{IsFormat, IsSameElement}
use Rattle.sprintf.specs.Values.{arg_meaning}
use Rattle.sprintf.specs.Meaning.{Meaning}
use Rattle.sprintf.specs.Text.{printed}

-- a text is the format of at most one list of elements
abbrev pub HasOneElementList : Type 0
HasOneElementList = (text : List ℕ) (a b : List FormatElement) → IsFormat text a → IsFormat text b → AllZip IsSameElement a b

-- all lists of elements that a text spells print the same over all values, faults included
abbrev pub HasOneValue : Type 0
HasOneValue = (text : List ℕ) (a b : List FormatElement) (values : List Meaning) → IsFormat text a → IsFormat text b → printed a values ≡ printed b values

-- a field that a value fills has at least its width in bytes
abbrev pub FillsItsWidth : Type 0
FillsItsWidth = (value : Arg) (f : ConversionSpecifier) (width : ℕ) (text : List ℕ) → f.width ≡ Literal (pos width) → (arg_meaning value).text f ≡ Ok text → width ≤ length text

-- the value never answers this fault where width and precision are numbers
abbrev pub NeverAnswers : PrintfError → Meaning → Type 0
NeverAnswers fault value = (f : ConversionSpecifier) → f.width ≢ FromArgument → f.precision ≢ FromArgument → value.text f ≢ Err fault

-- but for the three faults that printing finds itself, none comes that no value answers
abbrev pub TakesFaultsFromValues : Type 0
TakesFaultsFromValues = (fault : PrintfError) (elements : List FormatElement) (values : List Meaning) → fault ≢ WrongType → fault ≢ NotEnoughArgs → fault ≢ TooManyArgs → All (NeverAnswers fault) values → printed elements values ≢ Err fault

-- where width and precision are numbers, `WrongType` is a carried value's only fault
abbrev pub CarriedRefuseTypes : Type 0
CarriedRefuseTypes = (value : Arg) (fault : PrintfError) → fault ≢ WrongType → NeverAnswers fault (arg_meaning value)
