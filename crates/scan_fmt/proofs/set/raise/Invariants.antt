use Rattle.scan_fmt.proofs.Spans.{Raised}
use Rattle.scan_fmt.proofs.set.raise.Given as goal

-- the spans so far are raised
abbrev pub invariant-spans : goal.invariant-spans
invariant-spans l = Raised l.fn.spans l.spans l.i
