-- What a list of elements prints over a list of values: a text, or the first fault from the left.
use Rattle.std.specs.Prelude.{◌≡◌, ◌⊎◌, ℕ, ◌+◌, ℤ, List, [], ◌∷◌, ◌++◌, drop, codes, Option, Some, None, Result, Ok, Err}
use Rattle.sprintf.specs.declared.PrintfError.{PrintfError}
use Rattle.sprintf.specs.declared.PrintfError.TheVariants.{ParseError, WrongType, TooManyArgs, NotEnoughArgs}
use Rattle.sprintf.specs.declared.parser.ConversionSpecifier.{ConversionSpecifier}
use Rattle.sprintf.specs.declared.parser.ConversionType.{ConversionType}
use Rattle.sprintf.specs.declared.parser.ConversionType.TheVariants.{PercentSign}
use Rattle.sprintf.specs.declared.parser.FormatElement.{FormatElement}
use Rattle.sprintf.specs.declared.parser.FormatElement.TheVariants.{Verbatim, Format}
use Rattle.sprintf.specs.declared.parser.NumericParam.{NumericParam}
use Rattle.sprintf.specs.declared.parser.NumericParam.TheVariants.{Literal, FromArgument}
use Rattle.sprintf.specs.Grammar.{IsFormat, IsNoFormat}
use Rattle.sprintf.specs.Meaning.{Meaning}

-- how many values a width or a precision takes: one for `*`
abbrev pub stars : NumericParam → ℕ
stars (Literal z) = 0
stars FromArgument = 1

-- how many values a field takes: none for `%%`, else one, and one for each `*`
abbrev pub wanted_by : ConversionType → ConversionSpecifier → ℕ
wanted_by PercentSign f = 0
wanted_by _ f = stars f.width + stars f.precision + 1

abbrev pub wanted : ConversionSpecifier → ℕ
wanted f = wanted_by f.conversion_type f

-- what comes after an answer; a fault stays
abbrev pub then_with : {A B : Type 0} → Result A PrintfError → (A → Result B PrintfError) → Result B PrintfError
then_with (Ok answer) next = next answer
then_with (Err e) next = Err e

-- the number that a value gives to a `*`
abbrev pub star_number : Option ℤ → Result NumericParam PrintfError
star_number (Some z) = Ok (Literal z)
star_number None = Err WrongType

-- a width or a precision as a number: where it is `*`, that of the first of these values
abbrev pub param_of : NumericParam → List Meaning → Result NumericParam PrintfError
param_of (Literal z) values = Ok (Literal z)
param_of FromArgument [] = Err NotEnoughArgs
param_of FromArgument (v ∷ values) = star_number v.int

-- the text of the first of these values
abbrev pub value_text : ConversionSpecifier → List Meaning → Result (List ℕ) PrintfError
value_text f [] = Err NotEnoughArgs
value_text f (v ∷ values) = v.text f

-- the text of a field over these values: `%`, or the width if it is `*`, then the precision if it is `*`, then the value
abbrev pub field_by : ConversionType → ConversionSpecifier → List Meaning → Result (List ℕ) PrintfError
field_by PercentSign f values = Ok (codes "%")
field_by _ f values =
    then_with (param_of f.width values) (λ width.
    then_with (param_of f.precision (drop (stars f.width) values)) (λ precision.
    value_text (record f { width = width; precision = precision }) (drop (stars f.precision) (drop (stars f.width) values))))

abbrev pub field_text : ConversionSpecifier → List Meaning → Result (List ℕ) PrintfError
field_text f values = field_by f.conversion_type f values

-- a text in front of another, unless that one is a fault
abbrev pub onto : List ℕ → Result (List ℕ) PrintfError → Result (List ℕ) PrintfError
onto text (Ok more) = Ok (text ++ more)
onto text (Err e) = Err e

-- the printed text: all elements in order, the values taken from the left; a value that is left over is a fault too
abbrev pub printed : List FormatElement → List Meaning → Result (List ℕ) PrintfError
printed [] [] = Ok []
printed [] (v ∷ values) = Err TooManyArgs
printed (Verbatim s ∷ es) values = onto s.now (printed es values)
printed (Format f ∷ es) values = then_with (field_text f values) (λ text. onto text (printed es (drop (wanted f) values)))

-- the text is a format, and this is what its elements print
abbrev pub PrintsFormat : List ℕ → List Meaning → List ℕ → Type 0
PrintsFormat format values text = (elements : List FormatElement) × IsFormat format elements × (printed elements values ≡ Ok text)

-- the text is no format, or this is the first fault of what its elements print
abbrev pub RefusesFormat : List ℕ → List Meaning → PrintfError → Type 0
RefusesFormat format values fault = (IsNoFormat format × (fault ≡ ParseError)) ⊎ ((elements : List FormatElement) × IsFormat format elements × (printed elements values ≡ Err fault))
