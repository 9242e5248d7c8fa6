-- Elements one by one: literal text, or a field.
use Rattle.std.specs.Prelude.{◌≡◌, ℕ, if◌then◌else◌, List, [], ◌∷◌, codes, Option, None, Some, Result, ⊤}
use Rattle.std.specs.Result.{result_unwrap_or}
use Rattle.sprintf.specs.declared.PrintfError.{PrintfError}
use Rattle.sprintf.specs.declared.parser.ConversionSpecifier.{ConversionSpecifier}
use Rattle.sprintf.specs.declared.parser.FormatElement.{FormatElement}
use Rattle.sprintf.specs.declared.parser.FormatElement.TheVariants.{Verbatim, Format}
use Rattle.row_format.specs.Columns.{Column, Columns, is_percent}

-- A field in front has the head behind it.
abbrev pub with_field : ConversionSpecifier → Columns → Columns
with_field f format = record { head = []; columns = record { field = f; after = format.head } ∷ format.columns }

-- The text of an answer; a refusal has none.
abbrev pub text_or_none : Result (List ℕ) PrintfError → List ℕ
text_or_none answer = result_unwrap_or answer []

-- The literal text that an element is; a field is none.
abbrev pub literal_of : FormatElement → Option (List ℕ)
literal_of (Verbatim s) = Some s.now
literal_of (Format f) = if is_percent f.conversion_type then Some (codes "%") else None

-- The elements begin with a field, or there are none.
abbrev pub BeginsWithField : List FormatElement → Type 0
BeginsWithField [] = ⊤
BeginsWithField (e ∷ es) = literal_of e ≡ None

-- The column of an element that is a field, with this literal text behind it.
abbrev pub column_of : FormatElement → List ℕ → List Column
column_of (Verbatim s) after = []
column_of (Format f) after = record { field = f; after = after } ∷ []
