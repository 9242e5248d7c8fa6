-- A template of formatx, segment by segment.
use Rattle.std.specs.Prelude.{◌≡◌, ℕ, ◌+◌, List, [], true, Option, Ok}
use Rattle.formatx.specs.Arguments.{argument_takes, position_at}
use Rattle.formatx.specs.Scene.{Scene}
use Rattle.formatx.specs.Spans.{HasNoOptions}
use Rattle.formatx.specs.Text.{Outcome, continued, rendered, whole}
use Rattle.formatx.specs.declared.ast.Argument.{Argument}
use Rattle.formatx.specs.declared.ast.FormatSpec.{FormatSpec}
use Rattle.formatx.specs.declared.ast.FormatType.TheVariants.{Display}
use Rattle.formatx.specs.declared.ast.Segment.{Segment}
use Rattle.values.specs.declared.kind.Kind.{Kind}
use Rattle.values.specs.Datum.{each_of}
use Rattle.values.specs.Templates.{formatx_meaning}
use Rattle.printer.specs.Text.{named_from}
use Rattle.tokens.specs.declared.Token.{Token}
use Rattle.tokens.specs.Tokens.{AreTokens, data_of}
use Rattle.pieces.specs.Inner.Layout.{Parts, layout_text}

-- The specification prints a value as it is.
pub record IsPlain (spec : FormatSpec) : Type 0 where
  pub bare : HasNoOptions spec
  pub display : spec.format_type ≡ Display

-- A template over the values of a row.
abbrev pub scene : List ℕ → List (List ℕ) → List Kind → List ℕ → List Token → Scene
scene template names kinds row tokens = record { source = template; values = each_of formatx_meaning kinds (data_of kinds row tokens); names = named_from 0 names; strict = true }

-- The position of an argument, over any row.
abbrev pub place_of : List ℕ → List (List ℕ) → Argument → ℕ → Option ℕ
place_of template names argument next = position_at (scene template names [] [] []) next argument

-- The implicit position behind an argument's.
abbrev pub place_after : Argument → ℕ → ℕ
place_after argument next = next + argument_takes argument

-- The text of a layout, and behind it what segments print from an implicit position on.
abbrev pub rendered_behind : List ℕ → List (List ℕ) → Parts → List Segment → ℕ → List Kind → List ℕ → List Token → Outcome
rendered_behind template names layout segments next kinds row tokens = continued (Ok (layout_text layout row tokens)) (rendered (scene template names kinds row tokens) next segments)

-- A step takes segments into the layout, and leaves the text as it is.
abbrev pub Moves : List ℕ → List (List ℕ) → List Kind → Parts → List Segment → ℕ → Parts → List Segment → ℕ → Type 0
Moves template names kinds old segments next new rest after = (row : List ℕ) (tokens : List Token) → AreTokens kinds row tokens → rendered_behind template names old segments next kinds row tokens ≡ rendered_behind template names new rest after kinds row tokens

-- So much of the segments is in the layout.
abbrev pub IsInPart : List ℕ → List (List ℕ) → List Kind → List Segment → Parts → List Segment → ℕ → Type 0
IsInPart template names kinds segments layout rest next = (row : List ℕ) (tokens : List Token) → AreTokens kinds row tokens → rendered (scene template names kinds row tokens) 0 segments ≡ rendered_behind template names layout rest next kinds row tokens

-- All of the segments is in the layout.
abbrev pub IsWhole : List ℕ → List (List ℕ) → List Kind → List Segment → Parts → Type 0
IsWhole template names kinds segments layout = (row : List ℕ) (tokens : List Token) → AreTokens kinds row tokens → whole (rendered (scene template names kinds row tokens) 0 segments) ≡ Ok (layout_text layout row tokens)
