use Rattle.std.proofs.Common.{◌≡◌, ◌<◌, List, [], ◌∷◌, length, refl, ap, ◌∙◌, arith}
use Rattle.formatx.specs.Text.{whole}
use Rattle.formatx.specs.declared.ast.Segment.{Segment}
use Rattle.pieces.specs.Inner.Formatx.{rendered_behind}
use Rattle.pieces.proofs.FormatxLemmas.{finish}
use Rattle.pieces.proofs.formatx_layout.lay_out_segments.Goals as goal

no_segment : {A : Type 0} (xs : List A) → length xs < 1 → xs ≡ []
no_segment [] h = refl
no_segment (x ∷ xs) h = let none : ⊥ = omega arith in absurd none

pub returns : goal.returns
returns c = λ row tokens are.
    let done : c.segments.rest.now ≡ [] = no_segment c.segments.rest.now (omega (arith, c.in_default.len_below)) in
    ap whole (c.segments.invariant.0 row tokens are)
    ∙ ap (λ (ss : List Segment). whole (rendered_behind c.args.template.now c.args.names.now c.segments.layout ss c.segments.next c.args.kinds.now row tokens)) done
    ∙ finish c.args.template.now c.args.names.now c.args.kinds.now c.segments.layout c.segments.next row tokens
