use Rattle.std.proofs.Common.{◌-◌, length}
use Rattle.whiteread.specs.Lines.OneLine.{longest_line}
use Rattle.whiteread.proofs.OneLineLemmas.{Taking}
use Rattle.whiteread.proofs.reader.one_line.take_line.Given as goal

abbrev pub invariant-bytes : goal.invariant-bytes
invariant-bytes g l = Taking g.S.Source.supply l.initial.source l.source l.line.items

abbrev pub decreases-bytes : goal.decreases-bytes
decreases-bytes g l = longest_line - length l.line.items
