use Rattle.std.proofs.Common.{◌≡◌, ℕ, List, [], ◌∷◌, length, Option, IfSome, refl, sym, ◌∙◌, arith, rules, subst}
use Rattle.std.specs.Borrow.{Bor}
use Rattle.std.proofs.lemmas.Bool.Decides.{Decides-eqb}
use Rattle.pieces.specs.Inner.Strfmt.{Moves}
use Rattle.pieces.proofs.StrfmtLemmas.{start, further, finish}
use Rattle.pieces.proofs.strfmt_layout.lay_out.Goals as goal

no_byte : (bs : List ℕ) → length bs ≡ 0 → bs ≡ []
no_byte [] h = refl
no_byte (b ∷ bs) h = let none : ⊥ = omega (arith, h) in absurd none

pub fronts-init : goal.fronts-init
fronts-init c = (search rules, start c.args.names.now c.args.kinds.now c.args.template.now c.new-layout.result c.new-layout.ensures)

pub fronts-preserved : goal.fronts-preserved
fronts-preserved c =
    let moves = subst (λ (o : Option (Bor (List ℕ))). IfSome o (λ r. Moves c.args.names.now c.args.kinds.now c.fronts.layout c.fronts.rest.now c.push_front.new.layout r.now)) c.in-Some.is c.in_ok-found.ensures.moves in
    (search rules, further c.args.names.now c.args.kinds.now c.args.template.now c.fronts.layout c.push_front.new.layout c.fronts.rest.now c.in-Some.after.now c.fronts.invariant.1 moves)

pub returns : goal.returns
returns c =
    let done : c.fronts.rest.now ≡ [] = no_byte c.fronts.rest.now ((Decides-eqb (length c.fronts.rest.now) 0).0 (sym c.is_empty.ensures ∙ c.fronts-test.false)) in
    finish c.args.names.now c.args.kinds.now c.args.template.now c.fronts.layout c.fronts.rest.now done c.fronts.invariant.1
