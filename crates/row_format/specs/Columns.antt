-- A printf format as columns: each field with the literal text behind it.
use Rattle.std.specs.Prelude.{ℕ, List, [], ◌∷◌, ◌++◌, Bool, true, false, if◌then◌else◌, codes, unwrap_or}
use Rattle.std.specs.Result.{result_unwrap_or}
use Rattle.sprintf.specs.declared.parser.ConversionSpecifier.{ConversionSpecifier}
use Rattle.sprintf.specs.declared.parser.ConversionType.{ConversionType}
use Rattle.sprintf.specs.declared.parser.ConversionType.TheVariants.{PercentSign}
use Rattle.sprintf.specs.declared.parser.FormatElement.{FormatElement}
use Rattle.sprintf.specs.declared.parser.FormatElement.TheVariants.{Verbatim, Format}
use Rattle.sprintf.specs.Field.{number_of}
use Rattle.values.specs.declared.kind.Kind.{Kind}
use Rattle.values.specs.Datum.{Datum, printf_meaning}

-- A column is a field and the literal text behind it, up to the next field.
pub record Column : Type 0 where
  pub field : ConversionSpecifier
  pub after : List ℕ

-- A format is the literal text in front of its first field, and its columns.
pub record Columns : Type 0 where
  pub head : List ℕ
  pub columns : List Column

-- Only `%%` is no field: it is the literal text `%`.
abbrev pub is_percent : ConversionType → Bool
is_percent PercentSign = true
is_percent _ = false

-- Literal text in front joins the head.
abbrev pub with_text : List ℕ → Columns → Columns
with_text text format = record { head = text ++ format.head; columns = format.columns }

-- The columns of a list of elements: a field in front has the head behind it.
abbrev pub columns_of : List FormatElement → Columns
columns_of [] = record { head = []; columns = [] }
columns_of (Verbatim s ∷ es) = with_text s.now (columns_of es)
columns_of (Format f ∷ es) = if is_percent f.conversion_type then with_text (codes "%") (columns_of es) else record { head = []; columns = record { field = f; after = (columns_of es).head } ∷ (columns_of es).columns }

-- The text of a field over a value of the kind; a refusal has none.
abbrev pub field_text : ConversionSpecifier → Kind → Datum → List ℕ
field_text f kind value = result_unwrap_or ((printf_meaning kind value).text f) []

-- The text of columns over values of these kinds: for each the field's, and then the literal text behind it.
abbrev pub columns_text : List Column → List Kind → List Datum → List ℕ
columns_text (c ∷ cs) (kind ∷ kinds) (value ∷ values) = field_text c.field kind value ++ (c.after ++ columns_text cs kinds values)
columns_text cs kinds values = []

-- The text of a format over values of these kinds.
abbrev pub row_text : Columns → List Kind → List Datum → List ℕ
row_text format kinds values = format.head ++ columns_text format.columns kinds values

-- The width of a field as a number of bytes: one that is written as a negative number, or by an argument, counts as 0.
abbrev pub width_of : ConversionSpecifier → ℕ
width_of f = unwrap_or (number_of f.width) 0
