-- What follows the run.
use Rattle.formatx.proofs.EndLemmas.{end_drop}
use Rattle.formatx.proofs.parser.skip_word.Goals as goal

pub returns-clause-leaves : goal.returns-clause-leaves
returns-clause-leaves c = end_drop c.args.text.now c.range_from.result.now c.word_len.result c.range_from.ensures.value
