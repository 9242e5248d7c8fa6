use Rattle.std.proofs.Common.{◌++◌, drop}
use Rattle.pieces.specs.Inner.Copied.{AreSame}
use Rattle.pieces.specs.Inner.Layout.{parts_text}
use Rattle.pieces.proofs.copied.layout_over.Given as goal

abbrev pub invariant-parts : goal.invariant-parts
invariant-parts l = AreSame l.fields l.kinds (parts_text l.piece-items) (λ row tokens. parts_text l.pieces.items row tokens ++ parts_text (drop l.piece-index l.piece-items) row tokens)
