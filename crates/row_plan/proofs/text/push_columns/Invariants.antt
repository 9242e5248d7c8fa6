use Rattle.std.proofs.Common.{◌≡◌, ◌++◌, string_bytes, length}
use Rattle.row_format.specs.Planned.{planned_columns}
use Rattle.row_plan.proofs.text.push_columns.Given as goal

-- what is written, and what is left
abbrev pub invariant-fields : goal.invariant-fields
invariant-fields l = string_bytes l.out ++ planned_columns l.fields l.kinds ≡ string_bytes l.fn.out ++ planned_columns l.fn.fields l.fn.kinds

abbrev pub decreases-fields : goal.decreases-fields
decreases-fields l = length l.fields
