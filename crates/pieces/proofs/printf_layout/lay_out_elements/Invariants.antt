use Rattle.std.proofs.Common.{length}
use Rattle.pieces.specs.Inner.Printf.{IsInPart}
use Rattle.pieces.proofs.printf_layout.lay_out_elements.Given as goal

abbrev pub invariant-elements : goal.invariant-elements
invariant-elements l = IsInPart l.kinds l.elements l.layout l.rest l.place

abbrev pub decreases-elements : goal.decreases-elements
decreases-elements l = length l.rest
