use Rattle.whiteread.proofs.CallLemmas.{EachCall}
use Rattle.whiteread.proofs.stream.containers.VecFromStream.read.Given as goal

abbrev pub invariant-values : goal.invariant-values
invariant-values g l = EachCall g.I.StrStream.stream g.T.FromStream.reading l.initial.it l.values.items l.it

abbrev pub decreases-values : goal.decreases-values
decreases-values g l = g.I.StrStream.stream.bound l.it
