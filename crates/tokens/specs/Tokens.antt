-- What the tokens of a row stand for.
use Rattle.std.specs.Prelude.{◌≤◌, ◌+◌, ℕ, List, [], ◌∷◌, slice_range, ⊤}
use Rattle.std.specs.Int.{w64, cast_signed}
use Rattle.std.specs.Str.{IsCharBoundary}
use Rattle.values.specs.declared.kind.Kind.{Kind}
use Rattle.values.specs.declared.kind.Kind.TheVariants.{U8, U16, U32, U64, Usize, I8, I16, I32, I64, Isize, Word, Char}
use Rattle.values.specs.Datum.{Datum, natural, integer, word, IsOfKind}
use Rattle.tokens.specs.declared.Token.{Token}

-- The value of a token of a row, by its kind; no token is a character.
abbrev pub datum_at : Kind → List ℕ → Token → Datum
datum_at U8 row token = natural token.number
datum_at U16 row token = natural token.number
datum_at U32 row token = natural token.number
datum_at U64 row token = natural token.number
datum_at Usize row token = natural token.number
datum_at I8 row token = integer (cast_signed w64 token.number)
datum_at I16 row token = integer (cast_signed w64 token.number)
datum_at I32 row token = integer (cast_signed w64 token.number)
datum_at I64 row token = integer (cast_signed w64 token.number)
datum_at Isize row token = integer (cast_signed w64 token.number)
datum_at Word row token = word (slice_range row token.start token.end)
datum_at Char row token = natural token.number

-- The values of tokens of these kinds.
abbrev pub data_of : List Kind → List ℕ → List Token → List Datum
data_of (kind ∷ kinds) row (token ∷ tokens) = datum_at kind row token ∷ data_of kinds row tokens
data_of _ row _ = []

-- A word isn't longer than what a printf format prints whole.
abbrev pub IsPrintedWhole : Kind → Token → Type 0
IsPrintedWhole Word token = token.end ≤ token.start + 2147483647
IsPrintedWhole _ token = ⊤

-- The token stands in the row between two characters, and its value is of the kind.
pub record IsToken (kind : Kind) (row : List ℕ) (token : Token) : Type 0 where
  pub ordered : token.start ≤ token.end
  pub starts : IsCharBoundary row token.start
  pub ends : IsCharBoundary row token.end
  pub value : IsOfKind kind (datum_at kind row token)
  pub whole : IsPrintedWhole kind token

-- There is one token of the row for each of the kinds.
abbrev pub AreTokens : List Kind → List ℕ → List Token → Type 0
AreTokens [] row [] = ⊤
AreTokens (kind ∷ kinds) row (token ∷ tokens) = IsToken kind row token × AreTokens kinds row tokens
AreTokens _ row _ = ⊥
