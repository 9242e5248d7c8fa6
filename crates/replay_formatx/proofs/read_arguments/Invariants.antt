use Rattle.std.proofs.Common.{length}
use Rattle.replay_formatx.proofs.read_arguments.Given as goal

abbrev pub decreases-pairs : goal.decreases-pairs
decreases-pairs l = length l.rest
