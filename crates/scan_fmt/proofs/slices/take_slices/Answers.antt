use Rattle.scan_fmt.specs.Scanned.{tokens_of}
use Rattle.scan_fmt.proofs.Taking.{slices_are}
use Rattle.scan_fmt.proofs.slices.take_slices.Goals as goal

pub invariant_of-result : goal.invariant_of-result
invariant_of-result c = let pieces = c.in_ok-pieces.ensures in slices_are c.args.input.now c.in_ok-pieces.pieces.items (tokens_of pieces.out) pieces.are
