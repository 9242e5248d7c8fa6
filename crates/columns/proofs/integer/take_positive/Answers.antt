use Rattle.columns.proofs.Integers.{positive_taken}
use Rattle.columns.proofs.integer.take_positive.Goals as goal

pub returns : goal.returns
returns c = positive_taken c.args.text.now c.in_ok-digits.digits.now c.in_ok-number.rest.now c.in_ok-number.number c.args.greatest c.args.plus c.in_ok-digits.ensures c.in_ok-number.ensures
