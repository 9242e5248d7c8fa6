use Rattle.std.proofs.Common.{length}
use Rattle.replay_strfmt.proofs.fill_by.Given as goal

abbrev pub decreases-pairs : goal.decreases-pairs
decreases-pairs g l = length l.rest
