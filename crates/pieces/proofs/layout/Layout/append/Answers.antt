use Rattle.std.proofs.Common.{◌++◌, List, ℕ, append_assoc, sym, ◌∙◌, ap}
use Rattle.pieces.specs.Inner.Layout.{part_text}
use Rattle.pieces.proofs.LayoutLemmas.{parts_text-step}
use Rattle.pieces.proofs.layout.Layout.append.Goals as goal

pub pieces-preserved : goal.pieces-preserved
pieces-preserved c =
    let row = c.args.row.now in
    let tokens = c.args.tokens.now in
    let p = c.piece-item.result in
    let done = c.pieces.invariant.0 in
    let text : List ℕ = part_text p row tokens in
    let step = parts_text-step c.deref-piece-items.result.now c.pieces.piece-index p row tokens c.pieces-test.true c.piece-item.is in (
      done ++ text,
      c.in_ok-append.ensures.ok ∙ ap (λ (t : List ℕ). t ++ text) c.pieces.invariant.1 ∙ append_assoc _ done text,
      c.pieces.invariant.2 ∙ ap (λ (t : List ℕ). done ++ t) step ∙ sym (append_assoc done text _),
    )
