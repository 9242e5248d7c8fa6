use Rattle.std.proofs.Common.{map}
use Rattle.std.proofs.lemmas.Result.{IfOk-weaker}
use Rattle.scan_fmt.specs.Inner.Parts.{directive_of}
use Rattle.scan_fmt.specs.Slices.{ScannedPieces}
use Rattle.scan_fmt.proofs.Taking.{scanned_pieces}
use Rattle.scan_fmt.proofs.parse.Format.scan_slices.Goals as goal

pub returns-clause-pieces : goal.returns-clause-pieces
returns-clause-pieces c =
    IfOk-weaker c.take_slices.result _ (λ s. ScannedPieces c.args.input.now c.args.self.now s.pieces)
    (λ s so. scanned_pieces c.args.input.now c.args.self.now (map directive_of c.as_slice.result.now) s.pieces (rw (← c.self.view_is, c.as_slice.ensures.value) c.self.invariant) so)
    c.take_slices.ensures.pieces
