-- What follows the `.`.
use Rattle.formatx.proofs.EndLemmas.{end_trans}
use Rattle.formatx.proofs.parser.precision.Goals as goal

pub returns-in-Some-strip-clause-leaves : goal.returns-in-Some-strip-clause-leaves
returns-in-Some-strip-clause-leaves c = end_trans c.in-Some.ensures.leaves c.in-Some-strip.ensures.leaves

pub count-requires : goal.count-requires
count-requires c = end_trans c.requires c.in-Some.ensures.leaves

pub returns-in-Some-count-clause-leaves : goal.returns-in-Some-count-clause-leaves
returns-in-Some-count-clause-leaves c = end_trans c.in-Some.ensures.leaves c.in_ok-count.ensures.leaves
