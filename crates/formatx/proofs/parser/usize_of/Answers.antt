-- What `parse` answers, as the definition has it.
use Rattle.std.proofs.Common.{◌∙◌}
use Rattle.formatx.proofs.Runs.{usize_of-parsed}
use Rattle.formatx.proofs.parser.usize_of.Goals as goal

pub returns : goal.returns
returns c = c.ok.ensures.value ∙ usize_of-parsed c.args.text.now c.parse.result c.parse.ensures.value.0
