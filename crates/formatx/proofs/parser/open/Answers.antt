-- What follows the second brace.
use Rattle.formatx.proofs.EndLemmas.{end_trans}
use Rattle.formatx.proofs.parser.open.Goals as goal

pub returns-in-Some-clause-leaves : goal.returns-in-Some-clause-leaves
returns-in-Some-clause-leaves c = end_trans c.skip_byte.ensures.leaves c.in-Some.ensures.leaves
