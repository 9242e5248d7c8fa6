-- What follows the digits.
use Rattle.formatx.proofs.EndLemmas.{end_drop}
use Rattle.formatx.proofs.parser.split_digits.Goals as goal

pub returns-clause-leaves : goal.returns-clause-leaves
returns-clause-leaves c = end_drop c.args.text.now c.split_at.result.1.now c.digits_len.result c.split_at.ensures.back
