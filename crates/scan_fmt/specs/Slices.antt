-- Tokens as pieces of the input: where each stands, and which are left.
use denote.Ref.{Bor}
use Rattle.std.specs.Prelude.{◌≡◌, ℕ, ◌≤◌, List, length, map, drop, Option}
use Rattle.std.specs.Iterator.{YieldsFirstRef}
use Rattle.std.specs.List.{slice_range, AllZip, AllAdjacentBelow}
use Rattle.std.specs.Str.{chars, IsCharBoundary}
use Rattle.scan_fmt.specs.declared.slices.Piece.{Piece}
use Rattle.scan_fmt.specs.Scanned.{Token, Scanned}

-- the bytes of the input at a piece
abbrev pub piece_text : List ℕ → Piece → List ℕ
piece_text input p = slice_range input p.start p.end

-- the piece is where the token stands: it lies in the input and cuts no character, it has the token's text, and behind it stands what stands behind the token
pub record IsPiece (input : List ℕ) (piece : Piece) (token : Token) : Type 0 where
  pub forward : piece.start ≤ piece.end
  pub starts : IsCharBoundary input piece.start
  pub ends : IsCharBoundary input piece.end
  pub text : chars (piece_text input piece) ≡ token.text
  pub behind : chars (drop piece.end input) ≡ token.behind

-- these are the pieces of the tokens of the format over the input, one for each token, and each starts at or after the end of the one before
pub record ScannedPieces (input format : List ℕ) (pieces : List Piece) : Type 0 where
  pub tokens : List Token
  pub scanned : Scanned (chars input) format tokens
  pub are : AllZip (IsPiece input) pieces tokens
  pub in_order : AllAdjacentBelow (λ (p q : Piece). p.end ≤ q.start) pieces (length pieces)

-- an input, the pieces of all its tokens, and how many of them were taken
pub record Sliced : Type 0 where
  pub input : List ℕ
  pub pieces : List Piece
  pub place : ℕ

-- the bytes of the tokens that are left
abbrev pub slices_left : Sliced → List (List ℕ)
slices_left s = map (piece_text s.input) (drop s.place s.pieces)

-- the next token that is left comes, or none is left; the input and the pieces stay
pub record NextSlice (old : Sliced) (next : Option (Bor (List ℕ))) (new : Sliced) : Type 0 where
  pub gives : YieldsFirstRef slices_left old next new
  pub input : new.input ≡ old.input
  pub pieces : new.pieces ≡ old.pieces
