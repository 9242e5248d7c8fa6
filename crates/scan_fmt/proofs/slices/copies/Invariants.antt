use Rattle.std.proofs.Common.{◌≡◌, map, string_bytes, take}
use Rattle.scan_fmt.specs.Slices.{piece_text}
use Rattle.scan_fmt.proofs.slices.copies.Given as goal

-- the pieces so far are copied
abbrev pub invariant-pieces : goal.invariant-pieces
invariant-pieces l = map string_bytes l.tokens.items ≡ map (piece_text l.input) (take l.piece-index l.pieces)
