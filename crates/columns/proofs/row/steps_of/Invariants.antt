use Rattle.std.proofs.Common.{◌≡◌, ◌++◌, take}
use Rattle.columns.specs.Inner.Steps.{columns_of, kinds_of, AreServed}
use Rattle.columns.proofs.row.steps_of.Given as goal

-- the steps so far, and the kinds that are left
abbrev pub invariant-fields : goal.invariant-fields
invariant-fields l = record {
  columns : columns_of l.steps.items ≡ take l.field-index l.fields;
  kinds : kinds_of l.steps.items ++ l.left ≡ l.kinds;
  served : AreServed l.steps.items;
}
