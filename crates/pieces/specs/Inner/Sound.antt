-- When a layout stands for a template.
use Rattle.std.specs.Prelude.{◌≡◌, ℕ, List, slice_get, Some, Ok}
use Rattle.values.specs.declared.kind.Kind.{Kind}
use Rattle.printer.specs.declared.dialect.Dialect.{Dialect}
use Rattle.printer.specs.Text.{PrintsBy}
use Rattle.tokens.specs.declared.Token.{Token}
use Rattle.tokens.specs.Tokens.{AreTokens, data_of}
use Rattle.columns.specs.Fields.{AreFieldsAt}
use Rattle.row_format.specs.Columns.{Column}
use Rattle.pieces.specs.declared.layout.Form.{Form}
use Rattle.pieces.specs.Inner.Layout.{Parts, form_of, layout_text}

-- Over each row, the text of the layout is what the template prints of the tokens' values.
abbrev pub StandsFor : Dialect → List ℕ → List (List ℕ) → List Kind → Parts → Type 0
StandsFor dialect template names kinds layout = (row : List ℕ) (tokens : List Token) → AreTokens kinds row tokens → PrintsBy dialect template names kinds (data_of kinds row tokens) (Ok (layout_text layout row tokens))

-- The same over each row whose tokens stand where the columns' fields do.
abbrev pub StandsOver : Dialect → List ℕ → List (List ℕ) → List Column → List Kind → Parts → Type 0
StandsOver dialect template names columns kinds layout = (row : List ℕ) (tokens : List Token) → AreTokens kinds row tokens → AreFieldsAt columns kinds row tokens → PrintsBy dialect template names kinds (data_of kinds row tokens) (Ok (layout_text layout row tokens))

-- The kind at the place has this form.
abbrev pub HasForm : List Kind → ℕ → Form → Type 0
HasForm kinds place form = (kind : Kind) × (slice_get kinds place ≡ Some kind) × (form_of kind ≡ Some form)
