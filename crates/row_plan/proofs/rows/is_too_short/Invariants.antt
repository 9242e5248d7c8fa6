use Rattle.std.proofs.Common.{length, drop}
use Rattle.row_plan.specs.Inner.Reading.{NoneWider}
use Rattle.row_plan.proofs.rows.is_too_short.Given as goal

-- where none of all is wider, none of those that are left is
abbrev pub invariant-fields : goal.invariant-fields
invariant-fields l = NoneWider (length l.line) l.fields → NoneWider (length l.line) (drop l.field-index l.fields)
