use Rattle.std.proofs.Common.{length}
use Rattle.strfmt.proofs.Numbers.{Passed}
use Rattle.strfmt.proofs.parts.number.Given as goal

abbrev pub invariant-digits : goal.invariant-digits
invariant-digits l = Passed l.fn.text l.value l.rest

abbrev pub decreases-digits : goal.decreases-digits
decreases-digits l = length l.rest
