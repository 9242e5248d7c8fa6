-- What follows the count.
use Rattle.formatx.proofs.EndLemmas.{end_trans}
use Rattle.formatx.proofs.parser.number_count.Goals as goal

pub returns-in_ok-position-in-Some-clause-leaves : goal.returns-in_ok-position-in-Some-clause-leaves
returns-in_ok-position-in-Some-clause-leaves c = end_trans c.split_digits.ensures.leaves c.in-Some.ensures.leaves
