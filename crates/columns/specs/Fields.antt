-- Which parts of a row tokens are.
use Rattle.std.specs.Prelude.{◌≡◌, ◌≤◌, ℕ, List, [], ◌∷◌, length, slice_range, ⊤}
use Rattle.values.specs.declared.kind.Kind.{Kind}
use Rattle.row_format.specs.Columns.{Column, field_text}
use Rattle.tokens.specs.Tokens.{datum_at}
use Rattle.tokens.specs.declared.Token.{Token}

-- The bytes of the row where a token stands.
abbrev pub token_text : List ℕ → Token → List ℕ
token_text row token = slice_range row token.start token.end

-- The token stands in the row, and there the row has what its field prints of what it denotes.
pub record IsFieldAt (column : Column) (kind : Kind) (row : List ℕ) (token : Token) : Type 0 where
  pub ordered : token.start ≤ token.end
  pub within : token.end ≤ length row
  pub text : token_text row token ≡ field_text column.field kind (datum_at kind row token)

-- There is one kind and one token for each column, and each is its field's.
abbrev pub AreFieldsAt : List Column → List Kind → List ℕ → List Token → Type 0
AreFieldsAt [] [] row [] = ⊤
AreFieldsAt (column ∷ columns) (kind ∷ kinds) row (token ∷ tokens) = IsFieldAt column kind row token × AreFieldsAt columns kinds row tokens
AreFieldsAt _ _ row _ = ⊥
