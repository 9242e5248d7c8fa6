-- The names in a specification fit a text, told of each name or part by part.
use Rattle.std.proofs.Common.{◌≡◌, inl, inr, ℕ, List, Option, Some, None, refl, subst}
use Rattle.std.specs.Prelude.{MatchOption, ⊤}
use Rattle.formatx.specs.Spans.{ArgumentFits, IsNameIn, SegmentFits, SpanFits}
use Rattle.formatx.specs.Inner.Parts.{CountFits, PrecisionFits, SpecFits}
use Rattle.formatx.specs.declared.ast.Span.{Span}
use Rattle.formatx.specs.declared.ast.FormatSpec.{FormatSpec}
use Rattle.formatx.specs.declared.ast.Count.{Count}
use Rattle.formatx.specs.declared.ast.Count.TheVariants.{Literal, Param}
use Rattle.formatx.specs.declared.ast.CountParam.TheVariants.{Positional, Named}
use Rattle.formatx.specs.declared.ast.Precision.{Precision}
use Rattle.formatx.specs.declared.ast.Placeholder.{Placeholder}
use Rattle.formatx.specs.declared.ast.Segment.TheVariants.{Placeholder as Placed}
use Rattle.formatx.specs.declared.ast.Precision.TheVariants.{Count as Counted, Star}

-- a width whose name fits
width_fits : (source : List ℕ) (w : Option Count) → ((s : Span) → w ≡ Some (Param (Named s)) → SpanFits source s) → MatchOption w ⊤ (CountFits source)
width_fits source None h = tt
width_fits source (Some (Literal n)) h = tt
width_fits source (Some (Param (Positional i))) h = tt
width_fits source (Some (Param (Named s))) h = h s refl

precision_fits : (source : List ℕ) (q : Option Precision) → ((s : Span) → q ≡ Some (Counted (Param (Named s))) → SpanFits source s) → MatchOption q ⊤ (PrecisionFits source)
precision_fits source None h = tt
precision_fits source (Some Star) h = tt
precision_fits source (Some (Counted (Literal n))) h = tt
precision_fits source (Some (Counted (Param (Positional i)))) h = tt
precision_fits source (Some (Counted (Param (Named s)))) h = h s refl

-- each part fits
pub parts_fit : (source : List ℕ) (spec : FormatSpec) → ((s : Span) → IsNameIn spec s → SpanFits source s) → SpecFits source spec
parts_fit source spec h = record {
  width = width_fits source spec.width (λ s e. h s (inl e));
  precision = precision_fits source spec.precision (λ s e. h s (inr e));
}

-- each name fits
pub names_fit : (source : List ℕ) (spec : FormatSpec) → SpecFits source spec → (s : Span) → IsNameIn spec s → SpanFits source s
names_fit source spec h s (inl e) = subst (λ (w : Option Count). MatchOption w ⊤ (CountFits source)) e h.width
names_fit source spec h s (inr e) = subst (λ (q : Option Precision). MatchOption q ⊤ (PrecisionFits source)) e h.precision

-- a placeholder whose parts fit
pub placed_fits : (source : List ℕ) (p : Placeholder) → SpanFits source p.span → ArgumentFits source p.argument → MatchOption p.spec.width ⊤ (CountFits source) → MatchOption p.spec.precision ⊤ (PrecisionFits source) → SegmentFits source (Placed p)
placed_fits source p span argument width precision = (span, argument, names_fit source p.spec (record { width = width; precision = precision }))

pub precision_in : (source : List ℕ) (p : Placeholder) → SegmentFits source (Placed p) → MatchOption p.spec.precision ⊤ (PrecisionFits source)
precision_in source p h = (parts_fit source p.spec h.2).precision
