-- Plans, and the rows that they read.
use Rattle.std.specs.Prelude.{◌≡◌, ℕ, List, map, ⊤}
use Rattle.values.specs.declared.kind.Kind.{Kind}
use Rattle.values.specs.declared.value.Value.{Value}
use Rattle.values.specs.Datum.{Datum, kind_of, datum_of}
use Rattle.row_format.specs.Columns.{Column, Columns}
use Rattle.row_format.specs.Row.{IsRow}
use Rattle.separation.specs.Refusal.{IsRefused}
use Rattle.row_plan.specs.declared.error.PlanError.{PlanError}
use Rattle.row_plan.specs.declared.error.PlanError.TheVariants.{Refused, NoMemory}
use Rattle.row_plan.specs.declared.error.RowError.{RowError}
use Rattle.row_plan.specs.declared.error.RowError.TheVariants.{NotARow, NoMemory as NoRoom}

-- A plan is a format and the kinds of its fields.
pub record Planned : Type 0 where
  pub format : Columns
  pub kinds : List Kind

-- The format is refused, or there was no memory.
abbrev pub RefusesPlan : List Column → List Kind → PlanError → Type 0
RefusesPlan columns kinds (Refused why) = IsRefused columns kinds why
RefusesPlan columns kinds NoMemory = ⊤

-- The line is the row of these values of the plan's kinds, and of no others.
pub record IsRead (plan : Planned) (line : List ℕ) (values : List Value) : Type 0 where
  pub kinds : map kind_of values ≡ plan.kinds
  pub row : IsRow plan.format plan.kinds line (map datum_of values)
  pub only : (others : List Datum) → IsRow plan.format plan.kinds line others → others ≡ map datum_of values

-- The line is the row of no values, or there was no memory.
abbrev pub RefusesRow : Planned → List ℕ → RowError → Type 0
RefusesRow plan line NotARow = (values : List Datum) → ¬ IsRow plan.format plan.kinds line values
RefusesRow plan line NoRoom = ⊤
