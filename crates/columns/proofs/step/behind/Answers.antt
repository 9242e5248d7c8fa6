use Rattle.std.proofs.lemmas.Slice.Eq.{strip_prefix_is}
use Rattle.std.proofs.lemmas.Bool.Decides.{Decides-eqb}
use Rattle.columns.proofs.Rows.{some_of_match}
use Rattle.columns.proofs.step.behind.Goals as goal

pub returns-in_default : goal.returns-in_default
returns-in_default c = some_of_match c.strip_prefix.result _ _ (strip_prefix_is Decides-eqb c.args.text.now c.args.front.now c.strip_prefix.result c.strip_prefix.ensures.cases)
