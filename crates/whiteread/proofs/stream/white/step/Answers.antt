use Rattle.whiteread.proofs.WhiteLemmas.{gives_white}
use Rattle.whiteread.proofs.stream.white.step.Goals as goal

pub returns : goal.returns
returns c = gives_white c.args.words c.next-word.result c.next-word.new.self c.next-word.ensures.steps
