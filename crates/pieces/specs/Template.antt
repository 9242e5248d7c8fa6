-- What pieces are made of.
use Rattle.std.specs.Prelude.{List}
use Rattle.values.specs.declared.kind.Kind.{Kind}
use Rattle.row_format.specs.Columns.{Columns}
use Rattle.printer.specs.Text.{Printing}

-- A template, the format of the rows whose values it prints, and their kinds.
pub record Template : Type 0 where
  pub printing : Printing
  pub format : Columns
  pub kinds : List Kind
