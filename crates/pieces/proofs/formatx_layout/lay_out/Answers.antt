use Rattle.std.proofs.Common.{List, sym, subst}
use Rattle.std.proofs.lemmas.Result.{IfOk-weaker}
use Rattle.formatx.specs.Grammar.{Spells}
use Rattle.formatx.specs.declared.ast.Segment.{Segment}
use Rattle.pieces.proofs.FormatxLemmas.{stands}
use Rattle.pieces.proofs.formatx_layout.lay_out.Goals as goal

pub returns-in-Ok : goal.returns-in-Ok
returns-in-Ok c =
    let spells : Spells c.args.template.now c.deref.result.now = subst (λ (segments : List Segment). Spells c.args.template.now segments) (sym c.deref.ensures.value) c.in-Ok.ensures.ok in
    IfOk-weaker c.lay_out_segments.result _ _ (λ found h. stands c.args.template.now c.args.names.now c.args.kinds.now c.deref.result.now spells found h) c.lay_out_segments.ensures
