use Rattle.std.proofs.Common.{◌≡◌, ◌++◌, ℕ, List, drop, string_bytes}
use Rattle.pieces.specs.Inner.Layout.{parts_text}
use Rattle.pieces.proofs.layout.Layout.append.Given as goal

abbrev pub invariant-pieces : goal.invariant-pieces
invariant-pieces l = (done : List ℕ) × (string_bytes l.out ≡ string_bytes l.fn.out ++ done) × (parts_text l.piece-items l.row l.tokens ≡ done ++ parts_text (drop l.piece-index l.piece-items) l.row l.tokens)
