use Rattle.std.proofs.Common.{length}
use Rattle.whiteread.specs.Words.Split.{words_left}
use Rattle.replay_whiteread.proofs.texts.split.Given as goal

abbrev pub decreases-words : goal.decreases-words
decreases-words l = length (words_left l.words)
