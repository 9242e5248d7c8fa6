use Rattle.replay_whiteread.proofs.texts.push_words.Given as goal

abbrev pub decreases-words : goal.decreases-words
decreases-words g l = g.I.StrStream.stream.bound l.words
