use Rattle.std.proofs.Common.{refl}
use Rattle.whiteread.proofs.SplitLemmas.{split_call}
use Rattle.whiteread.proofs.stream.split.SplitAsciiWhitespaceStrStream.next.Goals as goal

pub returns : goal.returns
returns c = ((refl, λ _. tt, split_call c.args.self.now _ _ (refl, c.word_from-end.ensures.next)), record { call = tt })
