-- What follows the `:`.
use Rattle.formatx.proofs.EndLemmas.{end_trans}
use Rattle.formatx.proofs.parser.spec.Goals as goal

pub options-requires : goal.options-requires
options-requires c = end_trans c.requires c.in-Some.ensures.leaves

pub returns-in_ok-spec-in-Some-clause-leaves : goal.returns-in_ok-spec-in-Some-clause-leaves
returns-in_ok-spec-in-Some-clause-leaves c = end_trans c.in-Some.ensures.leaves c.in_ok-spec-in-Some.ensures.leaves
