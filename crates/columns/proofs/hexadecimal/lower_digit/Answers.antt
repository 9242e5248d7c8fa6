use Rattle.std.proofs.Common.{arith}
use Rattle.columns.proofs.Tables.{lower_at}
use Rattle.columns.proofs.hexadecimal.lower_digit.Goals as goal

pub returns-in-0-to-15 : goal.returns-in-0-to-15
returns-in-0-to-15 c = lower_at c.args.byte c.from.result c.from.ensures (omega (arith, c.ranges.byte)) (omega arith)
