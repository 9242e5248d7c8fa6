use Rattle.std.proofs.Common.{length}
use Rattle.replay_whiteread.proofs.readers.answer.Given as goal

abbrev pub decreases-options : goal.decreases-options
decreases-options l = length l.rest
