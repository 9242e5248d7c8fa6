use Rattle.std.proofs.Common.{◌-◌}
use Rattle.whiteread.proofs.AwaitLemmas.{Reads}
use Rattle.whiteread.proofs.reader.Reader.await_line.Given as goal

abbrev pub invariant-reads : goal.invariant-reads
invariant-reads g l = Reads g.B.Source.supply l.initial.self l.self

abbrev pub decreases-reads : goal.decreases-reads
decreases-reads g l = l.self.limit - l.self.taken
