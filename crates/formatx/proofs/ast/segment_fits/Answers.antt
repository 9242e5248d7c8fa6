-- A placeholder fits where each part of it does.
use Rattle.std.proofs.Common.{◌≡◌, sym, subst}
use Rattle.std.specs.Prelude.{MatchOption, ⊤}
use Rattle.formatx.specs.Spans.{SpanFits, ArgumentFits, SegmentFits}
use Rattle.formatx.specs.Inner.Parts.{CountFits}
use Rattle.formatx.specs.declared.ast.Segment.TheVariants.{Placeholder as Placed}
use Rattle.formatx.proofs.SpanLemmas.{placed_fits, precision_in}
use Rattle.formatx.proofs.ast.segment_fits.Goals as goal
use Rattle.formatx.proofs.ast.segment_fits.Goals.{then-span_fits, else-span_fits, then-argument_fits, else-argument_fits}

pub returns-then-width_fits : goal.returns-then-width_fits
returns-then-width_fits c =
    elim c.if-argument_fits.branch [
      | then-argument_fits w ↦
          elim c.if-span_fits.branch [
            | then-span_fits v ↦
                let source = c.args.source.now in
                let p = c.in-Placeholder.placeholder in
                let is : c.args.segment.now ≡ Placed p = cc in
                let span : SpanFits source p.span = c.span_fits-in-Placeholder.ensures.0 cc in
                let argument : ArgumentFits source p.argument = v.argument_fits.ensures.0 cc in
                let width : MatchOption p.spec.width ⊤ (CountFits source) = w.width_fits.ensures.0 cc in (
                  λ yes. subst (SegmentFits source) (sym is) (placed_fits source p span argument width (c.precision_fits.ensures.0 yes)),
                  λ fits. c.precision_fits.ensures.1 (precision_in source p (subst (SegmentFits source) is fits)),
                )
            | else-span_fits v ↦ let no : ⊥ = cc in absurd no
          ]
      | else-argument_fits w ↦ let no : ⊥ = cc in absurd no
    ]
