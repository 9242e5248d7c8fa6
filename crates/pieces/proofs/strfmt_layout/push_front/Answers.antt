use Rattle.std.proofs.Common.{◌≡◌, ◌∷◌, ℕ, List, inl, inr, refl, sym, ap, ◌∙◌}
use Rattle.pieces.proofs.StrfmtLemmas.{escape_moves}
use Rattle.pieces.proofs.strfmt_layout.push_front.Goals as goal

pub returns-in-Some-clause-moves : goal.returns-in-Some-clause-moves
returns-in-Some-clause-moves c =
    let it = c.in-Some.ensures.cases in
    let e : c.args.text.now ≡ 123 ∷ 123 ∷ c.in-Some.rest.now = it.1.1 ∙ ap (λ (t : List ℕ). 123 ∷ 123 ∷ t) (sym it.2) in
    escape_moves c.args.names.now c.args.kinds.now c.args.layout.now c.push_text.new.self c.args.text.now c.in-Some.rest.now 123 (inl refl) e c.in_ok-push_text.ensures

pub returns-in-Some-strip_prefix-clause-moves : goal.returns-in-Some-strip_prefix-clause-moves
returns-in-Some-strip_prefix-clause-moves c =
    let it = c.in-Some-strip_prefix.ensures.cases in
    let e : c.args.text.now ≡ 125 ∷ 125 ∷ c.in-Some-strip_prefix.rest.now = it.1.1 ∙ ap (λ (t : List ℕ). 125 ∷ 125 ∷ t) (sym it.2) in
    escape_moves c.args.names.now c.args.kinds.now c.args.layout.now c.push_text-in-Some-strip_prefix.new.self c.args.text.now c.in-Some-strip_prefix.rest.now 125 (inr refl) e c.in_ok-push_text-2.ensures
