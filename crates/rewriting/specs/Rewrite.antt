-- What a row is, and what is written for it. All of it speaks of texts: a format, a template and a row are the bytes of their lines.
use Rattle.std.specs.Prelude.{◌≡◌, ℕ, List, Result, Ok}
use Rattle.sprintf.specs.declared.parser.FormatElement.{FormatElement}
use Rattle.sprintf.specs.Grammar.{IsFormat}
use Rattle.sprintf.specs.Text.{printed}
use Rattle.values.specs.declared.kind.Kind.{Kind}
use Rattle.values.specs.Datum.{Datum, printf_meaning, each_of}
use Rattle.row_format.specs.Columns.{columns_of}
use Rattle.row_format.specs.Fit.{AreFit}
use Rattle.printer.specs.declared.dialect.Dialect.{Dialect}
use Rattle.printer.specs.declared.error.RenderFault.{RenderFault}
use Rattle.printer.specs.Text.{Prints}
use Rattle.header_lines.specs.declared.heading.Version.{Version}

-- What the headers say: the version, the kinds of the fields and their names, the format of the rows, and a dialect and the template that is written in it.
pub record Layout : Type 0 where
  pub version : Version
  pub kinds : List Kind
  pub names : List (List ℕ)
  pub format : List ℕ
  pub dialect : Dialect
  pub template : List ℕ

-- The row is what the format prints of these values, which fit its columns.
pub record IsRow (kinds : List Kind) (format row : List ℕ) (values : List Datum) : Type 0 where
  pub elements : List FormatElement
  pub spelled : IsFormat format elements
  pub fit : AreFit (columns_of elements).columns kinds values
  pub prints : printed elements (each_of printf_meaning kinds values) ≡ Ok row

-- The row is that of these values, and of no others.
pub record IsRowOf (layout : Layout) (row : List ℕ) (values : List Datum) : Type 0 where
  pub is_row : IsRow layout.kinds layout.format row values
  pub only : (others : List Datum) → IsRow layout.kinds layout.format row others → others ≡ values

-- What the layout's template prints of values of its kinds, by their positions and names.
abbrev pub Renders : Layout → List Datum → Result (List ℕ) RenderFault → Type 0
Renders layout values outcome = Prints (record { dialect = layout.dialect; template = layout.template; names = layout.names }) layout.kinds values outcome

-- The row is rewritten as this line: that which the template prints of the row's values.
abbrev pub IsRewrittenAs : Layout → List ℕ → List ℕ → Type 0
IsRewrittenAs layout row line = (values : List Datum) × IsRowOf layout row values × Renders layout values (Ok line)
