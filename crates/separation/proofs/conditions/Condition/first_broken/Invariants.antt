use Rattle.std.proofs.Common.{◌≡◌, ◌+◌, ℕ, length}
use Rattle.row_format.specs.Plannable.{Never, FirstAt}
use Rattle.separation.specs.Inner.Conditions.{Breaks, MayJudge}
use Rattle.separation.proofs.conditions.Condition.first_broken.Given as goal

abbrev pub invariant-columns : goal.invariant-columns
invariant-columns l = record {
  counted : l.passed + length l.columns_left ≡ length l.columns;
  may : MayJudge l.self l.columns_left l.kinds_left;
  never : Never (Breaks l.self) l.columns_left l.kinds_left → Never (Breaks l.self) l.columns l.kinds;
  at : (place : ℕ) → FirstAt (Breaks l.self) l.columns_left l.kinds_left place → FirstAt (Breaks l.self) l.columns l.kinds (place + l.passed);
}

abbrev pub decreases-columns : goal.decreases-columns
decreases-columns l = length l.columns_left
