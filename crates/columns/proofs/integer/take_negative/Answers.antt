use Rattle.std.proofs.Common.{arith}
use Rattle.columns.proofs.Integers.{negative_taken}
use Rattle.columns.proofs.integer.take_negative.Goals as goal

pub returns : goal.returns
returns c = λ plus. negative_taken c.args.text.now c.in_ok-digits.digits.now c.in_ok-size.rest.now c.in_ok-size.size _ c.args.greatest plus c.in_ok-digits.ensures c.in_ok-size.ensures (omega arith) (omega arith) (omega arith)
