-- The three conditions of formats that can be read back, as one enum.
use Rattle.std.specs.Prelude.{List, ⊤}
use Rattle.values.specs.declared.kind.Kind.{Kind}
use Rattle.row_format.specs.Columns.{Column}
use Rattle.row_format.specs.Plannable.{IsUnpaired, IsLossy, RunsOn, Never}
use Rattle.separation.specs.declared.conditions.Condition.{Condition}
use Rattle.separation.specs.declared.conditions.Condition.TheVariants.{Paired, Whole, Apart}

-- The condition is broken in front.
abbrev pub Breaks : Condition → List Column → List Kind → Type 0
Breaks Paired = IsUnpaired
Breaks Whole = IsLossy
Breaks Apart = RunsOn

-- Whether a field runs on is asked only where the other two conditions hold.
abbrev pub MayJudge : Condition → List Column → List Kind → Type 0
MayJudge Apart columns kinds = Never IsUnpaired columns kinds × Never IsLossy columns kinds
MayJudge _ columns kinds = ⊤
