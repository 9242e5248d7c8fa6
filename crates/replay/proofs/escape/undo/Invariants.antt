use Rattle.std.proofs.Common.{length}
use Rattle.replay.proofs.escape.undo.Given as goal

abbrev pub decreases-bytes : goal.decreases-bytes
decreases-bytes l = length l.rest
