use Rattle.std.proofs.Common.{length}
use Rattle.strfmt.proofs.SegmentLemmas.{Cutting}
use Rattle.strfmt.proofs.template.cut.Given as goal

abbrev pub invariant-segments : goal.invariant-segments
invariant-segments l = Cutting l.fn.text l.segments.items l.rest

abbrev pub decreases-segments : goal.decreases-segments
decreases-segments l = length l.rest
