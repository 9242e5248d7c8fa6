use Rattle.std.proofs.Common.{◌≤◌, ◌+◌, ◌++◌, ◌∷◌, []}
use Rattle.std.specs.List.{All}
use Rattle.whiteread.proofs.CallLemmas.{EachCall}
use Rattle.whiteread.proofs.adapters.ZeroedFromStream.read.Given as goal

abbrev pub invariant-values : goal.invariant-values
invariant-values g l = record {
  each : EachCall g.I.StrStream.stream g.T.FromStream.reading l.fn.it (l.values.items ++ l.value ∷ []) l.it;
  some : All (λ item. ¬ (g.T.IsZero.zero item)) l.values.items;
  least : g.I.StrStream.stream.bound l.it + g.T.FromStream.reading.least ≤ g.I.StrStream.stream.bound l.fn.it;
}

abbrev pub decreases-values : goal.decreases-values
decreases-values g l = g.I.StrStream.stream.bound l.it
