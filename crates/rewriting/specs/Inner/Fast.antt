-- The fast way, and what it writes.
use Rattle.std.specs.Prelude.{◌≡◌, ◌++◌, ℕ, List, [], ◌∷◌, Option, Some, None, Ok}
use Rattle.whiteread.specs.Lines.{line_feed}
use Rattle.sprintf.specs.Grammar.{IsFormat}
use Rattle.sprintf.specs.declared.parser.FormatElement.{FormatElement}
use Rattle.values.specs.declared.kind.Kind.{Kind}
use Rattle.values.specs.Datum.{Datum}
use Rattle.row_format.specs.Columns.{Columns, columns_of}
use Rattle.row_format.specs.Laws.{IsText}
use Rattle.row_format.specs.Row.{IsRow}
use Rattle.printer.specs.Text.{Printing, Prints}

-- The format and the kinds of the rows, and the template that prints their values.
pub record FastWay : Type 0 where
  pub format : Columns
  pub kinds : List Kind
  pub printing : Printing

-- The columns are those of the printf format.
pub record IsRowFormatOf (format : List ℕ) (columns : Columns) : Type 0 where
  pub elements : List FormatElement
  pub spelled : IsFormat format elements
  pub text : IsText columns
  pub columns_are : columns ≡ columns_of elements

-- The way is from rows of the printf format over the kinds to lines of the template.
pub record IsWayOf (format : List ℕ) (kinds : List Kind) (printing : Printing) (way : FastWay) : Type 0 where
  pub elements : List FormatElement
  pub spelled : IsFormat format elements
  pub format_is : way.format ≡ columns_of elements
  pub kinds_are : way.kinds ≡ kinds
  pub printing_is : way.printing ≡ printing

-- The output has grown by what the template prints of the values of the row, and a line feed.
pub record IsWritten (way : FastWay) (row old new : List ℕ) : Type 0 where
  pub text : IsText way.format
  pub values : List Datum
  pub line : List ℕ
  pub is_row : IsRow way.format way.kinds row values
  pub prints : Prints way.printing way.kinds values (Ok line)
  pub grown : new ≡ old ++ (line ++ line_feed ∷ [])

-- There is a fast way, by which the output has grown.
abbrev pub HasWritten : Option FastWay → List ℕ → List ℕ → List ℕ → Type 0
HasWritten (Some way) row old new = IsWritten way row old new
HasWritten None row old new = ⊥
