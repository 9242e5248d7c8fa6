use Rattle.whiteread.proofs.WordLemmas.{runs-are, runs-only}
use Rattle.whiteread.specs.Words.{words, is_blank}
use Rattle.whiteread.proofs.laws.words_are_longest_runs.Goals as goal

pub returns : goal.returns
unfolding words
returns c = record { are = runs-are is_blank c.args.text.now; only = λ other are. runs-only is_blank c.args.text.now other are }
