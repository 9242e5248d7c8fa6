use Rattle.std.proofs.Common.{List, ℕ, get_or, ap, arith}
use Rattle.columns.proofs.Words.{stop_none, stop_first}
use Rattle.columns.proofs.take.stop_of.Goals as goal

pub returns-in-empty : goal.returns-in-empty
returns-in-empty c = stop_none c.args.after.now (omega (arith, c.in-empty.len_below, c.as_bytes.ensures.len))

pub returns-in-0-to-127 : goal.returns-in-0-to-127
returns-in-0-to-127 c =
    stop_first c.args.after.now (get_or c.as_bytes.result.now 0 0) 0 c.utf8.after (omega (arith, c.in-0-to-127.len_at_least, c.as_bytes.ensures.len)) (ap (λ (t : List ℕ). get_or t 0 0) c.as_bytes.ensures.value) (omega arith)
