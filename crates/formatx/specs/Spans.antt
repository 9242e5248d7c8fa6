-- Where the parts of a template stand in its source, and what stands for no options.
use Rattle.std.specs.Prelude.{◌≡◌, ◌≤◌, ◌⊎◌, ℕ, ◌+◌, List, [], ◌∷◌, All, Some, None, false, ⊤}
use Rattle.std.specs.Str.{IsCharBoundary}
use Rattle.formatx.specs.declared.ast.Span.{Span}
use Rattle.formatx.specs.declared.ast.FormatSpec.{FormatSpec}
use Rattle.formatx.specs.declared.ast.FormatType.TheVariants.{Display}
use Rattle.formatx.specs.declared.ast.Argument.{Argument}
use Rattle.formatx.specs.declared.ast.Argument.TheVariants as Of
use Rattle.formatx.specs.declared.ast.Count.TheVariants.{Param}
use Rattle.formatx.specs.declared.ast.CountParam.TheVariants.{Named}
use Rattle.formatx.specs.declared.ast.Precision.TheVariants.{Count as Counted}
use Rattle.formatx.specs.declared.ast.Segment.{Segment}
use Rattle.formatx.specs.declared.ast.Segment.TheVariants.{Literal, Placeholder as Placed}

-- the span lies in the text, and begins and ends between characters
abbrev pub SpanFits : List ℕ → Span → Type 0
SpanFits source s = (s.start ≤ s.end) × IsCharBoundary source s.start × IsCharBoundary source s.end

-- the span of an argument's name fits the text
abbrev pub ArgumentFits : List ℕ → Argument → Type 0
ArgumentFits source (Of.Named s) = SpanFits source s
ArgumentFits source _ = ⊤

-- the span is that of a name in the specification, which its width or its precision has
abbrev pub IsNameIn : FormatSpec → Span → Type 0
IsNameIn spec s = (spec.width ≡ Some (Param (Named s))) ⊎ (spec.precision ≡ Some (Counted (Param (Named s))))

-- each span of the segment fits the text: its own, and those of the names in a placeholder
abbrev pub SegmentFits : List ℕ → Segment → Type 0
SegmentFits source (Literal s) = SpanFits source s
SegmentFits source (Placed p) = SpanFits source p.span × ArgumentFits source p.argument × ((s : Span) → IsNameIn p.spec s → SpanFits source s)
SegmentFits source _ = ⊤

-- each span of each segment fits the text
abbrev pub Fits : List ℕ → List Segment → Type 0
Fits source segments = All (SegmentFits source) segments

-- the segments stand one right after another, from place i up to the end of the source: a literal and a placeholder at their
-- span, an escape in two bytes
abbrev pub Tiles : ℕ → ℕ → List Segment → Type 0
Tiles size i [] = i ≡ size
Tiles size i (Literal s ∷ ss) = (s.start ≡ i) × Tiles size s.end ss
Tiles size i (Placed p ∷ ss) = (p.span.start ≡ i) × Tiles size p.span.end ss
Tiles size i (_ ∷ ss) = Tiles size (i + 2) ss

-- no options at all, and Display
abbrev pub no_options : FormatSpec
no_options = record { fill = None; align = None; sign = None; alternate = false; zero_pad = false; width = None; precision = None; format_type = Display }

-- no option is given, whatever the type
abbrev pub HasNoOptions : FormatSpec → Type 0
HasNoOptions spec = spec ≡ record no_options { format_type = spec.format_type }
