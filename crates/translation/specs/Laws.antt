-- What holds of translations.
use Rattle.std.specs.Prelude.{◌≡◌, ◌↔◌, ◌<◌, ◌≤◌, ◌^◌, ℕ, true, List, [], length, IfSome, Ok, ⊤}
use Rattle.std.specs.List.{AllByRecursion, AllZip}
use Rattle.sprintf.specs.declared.parser.ConversionType.{ConversionType}
use Rattle.sprintf.specs.declared.parser.FormatElement.{FormatElement}
use Rattle.sprintf.specs.declared.parser.FormatElement.TheVariants.{Verbatim, Format}
use Rattle.sprintf.specs.Field.{number_of}
use Rattle.sprintf.specs.Text.{printed}
use Rattle.values.specs.declared.kind.Kind.{Kind}
use Rattle.values.specs.Datum.{Datum, natural, integer, word, character, IsOfKind, printf_meaning, each_of}
use Rattle.row_format.specs.Plannable.{Converts}
use Rattle.printer.specs.declared.dialect.Dialect.{Dialect}
use Rattle.printer.specs.declared.dialect.Dialect.TheVariants.{Strfmt, Formatx}
use Rattle.printer.specs.Text.{PrintsBy}
use Rattle.translation.specs.declared.target.Target.{Target}
use Rattle.translation.specs.declared.target.Target.TheVariants.{Strfmt as ToStrfmt, Formatx as ToFormatx}
use Rattle.translation.specs.Table.{suits}
use Rattle.translation.specs.Translated.{translated}

-- A word and a character are ASCII, and a word has no more bytes than printf prints of one.
abbrev pub IsAsciiDatum : Datum → Type 0
IsAsciiDatum (natural n) = ⊤
IsAsciiDatum (integer z) = ⊤
IsAsciiDatum (word text) = (length text ≤ 2147483647) × AllByRecursion (λ b. b < 128) text
IsAsciiDatum (character c) = c < 128

-- There is one value for each kind, of that kind, and texts are ASCII.
abbrev pub AreAsciiOf : List Kind → List Datum → Type 0
AreAsciiOf kinds values = AllZip (λ kind value. IsOfKind kind value × IsAsciiDatum value) kinds values

-- A width and a precision that are numbers are at most the greatest i32.
abbrev pub HasI32 : FormatElement → Type 0
HasI32 (Verbatim s) = ⊤
HasI32 (Format f) = IfSome (number_of f.width) (λ n. n < 2 ^ 31) × IfSome (number_of f.precision) (λ n. n < 2 ^ 31)

-- The elements and the kinds are those of a program, whose numbers have 32 bits and whose lists fit an isize.
pub record AreOfProgram (elements : List FormatElement) (kinds : List Kind) : Type 0 where
  pub numbers : AllByRecursion HasI32 elements
  pub few : length kinds < 2 ^ 63

-- The dialect that a template is translated to.
abbrev pub dialect_of : Target → Dialect
dialect_of ToStrfmt = Strfmt
dialect_of ToFormatx = Formatx

-- The translated template prints what the printf format prints, and that is always a text.
abbrev pub PrintsTheSame : Target → Type 0
PrintsTheSame target = (elements : List FormatElement) (kinds : List Kind) (values : List Datum) (template : List ℕ) → AreOfProgram elements kinds → AreAsciiOf kinds values → translated elements kinds target ≡ Ok template
    → (text : List ℕ) × (printed elements (each_of printf_meaning kinds values) ≡ Ok text) × PrintsBy (dialect_of target) template [] kinds values (Ok text)

-- The conversions that the table allows for a kind are those that plannable formats allow.
abbrev pub SuitsIsConverts : Type 0
SuitsIsConverts = (conversion : ConversionType) (kind : Kind) → (suits conversion kind ≡ true) ↔ Converts conversion kind
