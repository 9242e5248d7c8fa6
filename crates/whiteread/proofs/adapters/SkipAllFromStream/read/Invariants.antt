use Rattle.whiteread.proofs.NextLemmas.{Skips}
use Rattle.whiteread.proofs.adapters.SkipAllFromStream.read.Given as goal

abbrev pub invariant-words : goal.invariant-words
invariant-words g l = Skips g.I.StrStream.stream l.initial.it l.it

abbrev pub decreases-words : goal.decreases-words
decreases-words g l = g.I.StrStream.stream.bound l.it
