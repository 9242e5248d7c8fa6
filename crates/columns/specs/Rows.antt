-- What the fast way reads rows by.
use Rattle.std.specs.Prelude.{List}
use Rattle.values.specs.declared.kind.Kind.{Kind}
use Rattle.row_format.specs.Columns.{Columns}

-- The format of rows, and the kinds of its fields.
pub record RowColumns : Type 0 where
  pub format : Columns
  pub kinds : List Kind
