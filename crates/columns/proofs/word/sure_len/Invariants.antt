use Rattle.std.proofs.Common.{◌≤◌, ◌-◌, length, take}
use Rattle.std.specs.List.{AllByRecursion}
use Rattle.columns.specs.Inner.Shapes.{IsWordByte}
use Rattle.columns.proofs.word.sure_len.Given as goal

-- the bytes so far end no word
abbrev pub invariant-runs : goal.invariant-runs
invariant-runs l = record {
  within : l.len ≤ length l.text;
  bytes : AllByRecursion (IsWordByte l.stop) (take l.len l.text);
}

abbrev pub decreases-runs : goal.decreases-runs
decreases-runs l = length l.text - l.len
