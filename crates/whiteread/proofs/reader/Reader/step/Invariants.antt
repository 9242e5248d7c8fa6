use Rattle.whiteread.proofs.PassingLemmas.{Passing, ahead_bound}
use Rattle.whiteread.proofs.reader.Reader.step.Given as goal

abbrev pub invariant-lines : goal.invariant-lines
invariant-lines g l = Passing g.B.Source.supply l.initial.self l.self

abbrev pub decreases-lines : goal.decreases-lines
decreases-lines g l = ahead_bound l.self
