-- What follows a fill and an alignment.
use Rattle.formatx.proofs.EndLemmas.{end_trans}
use Rattle.formatx.proofs.parser.fill_align.Goals as goal

pub returns-in-Some-split_align-clause-leaves : goal.returns-in-Some-split_align-clause-leaves
returns-in-Some-split_align-clause-leaves c = end_trans c.in-Some.ensures.leaves c.in-Some-split_align.ensures.leaves
