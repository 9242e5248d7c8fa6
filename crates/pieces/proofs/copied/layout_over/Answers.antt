use Rattle.std.proofs.Common.{◌≡◌, ◌++◌, ◌∷◌, [], ◌+◌, List, drop, sym, subst, rules}
use Rattle.pieces.specs.Inner.Copied.{AreSame}
use Rattle.pieces.specs.Inner.Layout.{Part, parts_text}
use Rattle.pieces.proofs.CopiedLemmas.{further}
use Rattle.pieces.proofs.copied.layout_over.Goals as goal

pub parts-preserved : goal.parts-preserved
parts-preserved c =
    let parts : List Part = c.deref-piece-items.result.now in
    let pushed : c.push.new.self.items ≡ c.parts.pieces.items ++ c.in_ok-piece_over.field-0 ∷ [] = search rules in
    subst (λ (done : List Part). AreSame c.args.fields.now c.args.kinds.now (parts_text parts) (λ row tokens. parts_text done row tokens ++ parts_text (drop (c.parts.piece-index + 1) parts) row tokens)) (sym pushed)
    (further c.args.fields.now c.args.kinds.now parts c.parts.pieces.items c.parts.piece-index c.piece-item.result c.in_ok-piece_over.field-0 c.parts-test.true c.piece-item.is c.in_ok-piece_over.ensures c.parts.invariant)
