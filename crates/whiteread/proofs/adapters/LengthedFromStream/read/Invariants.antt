use Rattle.std.proofs.Common.{◌≤◌, ◌-◌, length, vec_len}
use Rattle.whiteread.specs.Reading.Tuples.{later}
use Rattle.whiteread.proofs.CallLemmas.{EachCall}
use Rattle.whiteread.proofs.adapters.LengthedFromStream.read.Given as goal

abbrev pub invariant-values : goal.invariant-values
invariant-values g l = record {
  each : EachCall g.I.StrStream.stream (later g.T.FromStream.reading) l.initial.it l.values.items l.it;
  within : length l.values.items ≤ l.count;
}

abbrev pub decreases-values : goal.decreases-values
decreases-values g l = l.count - vec_len l.values
