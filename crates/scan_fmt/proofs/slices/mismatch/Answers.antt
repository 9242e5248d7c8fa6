use Rattle.std.proofs.Common.{◌≡◌, List, [], ◌∷◌, ◌++◌, ◌∙◌, ap}
use Rattle.scan_fmt.specs.declared.slices.Piece.{Piece}
use Rattle.std.proofs.lemmas.Str.{chars-nil}
use Rattle.scan_fmt.proofs.slices.mismatch.Goals as goal

pub returns : goal.returns
returns c =
    let pushed : c.push_piece.new.pieces.items ≡ c.piece_of-piece.result ∷ [] = c.in_ok-push_piece.ensures ∙ ap (λ (ps : List Piece). ps ++ c.piece_of-piece.result ∷ []) c.new-pieces.ensures.items in
    (c.piece_of-piece.result, pushed, rw chars-nil at c.piece_of-piece.ensures.piece)
