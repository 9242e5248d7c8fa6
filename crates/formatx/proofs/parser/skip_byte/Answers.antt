-- What follows an ASCII byte.
use Rattle.formatx.proofs.EndLemmas.{after_first, end_drop}
use Rattle.formatx.proofs.parser.skip_byte.Goals as goal

pub range_from-requires : goal.range_from-requires
range_from-requires c = λ _. after_first c.args.text.now c.utf8.text c.requires.visible c.requires.ascii

pub returns-clause-leaves : goal.returns-clause-leaves
returns-clause-leaves c = end_drop c.args.text.now c.range_from.result.now 1 c.range_from.ensures.value
