use denote.Text.{Utf8}
use denote.Shadow.{shadow}
use Rattle.std.proofs.Common.{length}
use Rattle.pieces.specs.Inner.Strfmt.{IsInPart}
use Rattle.pieces.proofs.strfmt_layout.lay_out.Given as goal

abbrev pub invariant-fronts : goal.invariant-fronts
invariant-fronts l = shadow (Utf8 l.rest) × IsInPart l.names l.kinds l.template l.layout l.rest

abbrev pub decreases-fronts : goal.decreases-fronts
decreases-fronts l = length l.rest
