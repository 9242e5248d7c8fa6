-- Texts that are the same over the rows of a format.
use Rattle.std.specs.Prelude.{◌≡◌, ℕ, List, slice_get}
use Rattle.values.specs.declared.kind.Kind.{Kind}
use Rattle.row_format.specs.Columns.{Column}
use Rattle.tokens.specs.declared.Token.{Token}
use Rattle.tokens.specs.Tokens.{AreTokens}
use Rattle.columns.specs.Fields.{AreFieldsAt}
use Rattle.pieces.specs.declared.layout.Form.{Form}
use Rattle.pieces.specs.Inner.Layout.{Part, Parts, layout_text, part_text, parts_text, text_where}

-- Over each row whose tokens stand where the columns' fields do, the two are the same.
abbrev pub AreSame : List Column → List Kind → (List ℕ → List Token → List ℕ) → (List ℕ → List Token → List ℕ) → Type 0
AreSame columns kinds one other = (row : List ℕ) (tokens : List Token) → AreTokens kinds row tokens → AreFieldsAt columns kinds row tokens → other row tokens ≡ one row tokens

-- The value at a place is printed the same in both forms.
abbrev pub IsSameValue : List Column → List Kind → ℕ → Form → Form → Type 0
IsSameValue columns kinds place form other = AreSame columns kinds (λ row tokens. text_where form row (slice_get tokens place)) (λ row tokens. text_where other row (slice_get tokens place))

-- Both parts have the same text.
abbrev pub IsSamePart : List Column → List Kind → Part → Part → Type 0
IsSamePart columns kinds part other = AreSame columns kinds (part_text part) (part_text other)

-- The parts of both have the same text.
abbrev pub AreSameParts : List Column → List Kind → List Part → List Part → Type 0
AreSameParts columns kinds parts others = AreSame columns kinds (parts_text parts) (parts_text others)

-- Both layouts have the same text.
abbrev pub IsSameLayout : List Column → List Kind → Parts → Parts → Type 0
IsSameLayout columns kinds layout other = AreSame columns kinds (layout_text layout) (layout_text other)
