use Rattle.std.proofs.Common.{length}
use Rattle.strfmt.proofs.CutLemmas.{Scanned}
use Rattle.pieces.proofs.strfmt_layout.find_brace.Given as goal

abbrev pub invariant-bytes : goal.invariant-bytes
invariant-bytes l = Scanned l.fn.text l.rest l.found

abbrev pub decreases-bytes : goal.decreases-bytes
decreases-bytes l = length l.rest
