-- What the steps of a format have read.
use Rattle.std.specs.Prelude.{◌≡◌, ◌≤◌, ◌++◌, ◌-◌, ℕ, List, [], ◌∷◌, length, drop, map, string_bytes, ⊤, IsUtf8}
use Rattle.values.specs.declared.kind.Kind.{Kind}
use Rattle.row_format.specs.Columns.{Column, field_text, columns_text}
use Rattle.row_format.specs.Fit.{IsFit, AreFit}
use Rattle.columns.specs.Inner.Serves.{Serves}
use Rattle.columns.specs.Fields.{IsFieldAt, AreFieldsAt}
use Rattle.tokens.specs.Tokens.{datum_at, data_of, IsToken, AreTokens}
use Rattle.columns.specs.declared.step.Step.{Step}
use Rattle.tokens.specs.declared.Token.{Token}

-- The column of a step.
abbrev pub column_of : Step → Column
column_of step = record { field = step.field; after = string_bytes step.after }

-- The columns of steps.
abbrev pub columns_of : List Step → List Column
columns_of steps = map column_of steps

-- The kinds of steps.
abbrev pub kinds_of : List Step → List Kind
kinds_of steps = map (λ step. step.kind) steps

-- The way in which a step takes its field serves it.
abbrev pub IsServedStep : Step → Type 0
IsServedStep step = Serves step.field step.kind (string_bytes step.after) step.take

-- Each step is so.
abbrev pub AreServed : List Step → Type 0
AreServed [] = ⊤
AreServed (step ∷ steps) = IsServedStep step × AreServed steps

-- The text is the end of the row, behind whole characters.
pub record IsEnd (row text : List ℕ) : Type 0 where
  pub short : length text ≤ length row
  pub is : text ≡ drop (length row - length text) row
  pub utf8 : IsUtf8 text

-- The column's field and the literal text behind it stand in front of the end of the row, and the token tells the field's value.
pub record IsStepRead (column : Column) (kind : Kind) (row text : List ℕ) (token : Token) (rest : List ℕ) : Type 0 where
  pub fit : IsFit column kind (datum_at kind row token)
  pub at : IsToken kind row token
  pub field : IsFieldAt column kind row token
  pub whole : text ≡ field_text column.field kind (datum_at kind row token) ++ (column.after ++ rest)
  pub end : IsEnd row rest

-- The columns' fields and the literal texts behind them stand in front, and the tokens tell their values.
pub record AreStepsRead (columns : List Column) (kinds : List Kind) (row text : List ℕ) (tokens : List Token) (rest : List ℕ) : Type 0 where
  pub fit : AreFit columns kinds (data_of kinds row tokens)
  pub at : AreTokens kinds row tokens
  pub fields : AreFieldsAt columns kinds row tokens
  pub whole : text ≡ columns_text columns kinds (data_of kinds row tokens) ++ rest
  pub end : IsEnd row rest
