use Rattle.std.proofs.Common.{length}
use Rattle.formatx.specs.Spans.{Fits}
use Rattle.pieces.specs.Inner.Formatx.{IsInPart}
use Rattle.pieces.proofs.formatx_layout.lay_out_segments.Given as goal

abbrev pub invariant-segments : goal.invariant-segments
invariant-segments l = IsInPart l.template l.names l.kinds l.segments l.layout l.rest l.next × Fits l.template l.rest

abbrev pub decreases-segments : goal.decreases-segments
decreases-segments l = length l.rest
