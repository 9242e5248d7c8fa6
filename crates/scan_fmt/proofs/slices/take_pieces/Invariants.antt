use denote.Text.{Utf8}
use denote.Shadow.{shadow}
use Rattle.std.proofs.Common.{drop, map}
use Rattle.scan_fmt.specs.Inner.Parts.{directive_of}
use Rattle.scan_fmt.proofs.Taking.{Placed}
use Rattle.scan_fmt.proofs.slices.take_pieces.Given as goal

-- what the later directives come to over the rest of the input comes after the pieces so far
abbrev pub invariant-directives : goal.invariant-directives
invariant-directives l = shadow (Utf8 l.rest) × Placed (map directive_of l.directives) l.fn.input (map directive_of (drop l.directive-index l.directives)) l.rest l.pieces.items
