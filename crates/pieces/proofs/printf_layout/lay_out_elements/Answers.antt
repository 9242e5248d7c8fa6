use Rattle.std.proofs.Common.{◌≡◌, ◌<◌, List, [], ◌∷◌, length, refl, ap, ◌∙◌, arith}
use Rattle.sprintf.specs.declared.parser.FormatElement.{FormatElement}
use Rattle.pieces.specs.Inner.Printf.{printed_behind}
use Rattle.pieces.proofs.PrintfLemmas.{finish}
use Rattle.pieces.proofs.printf_layout.lay_out_elements.Goals as goal

no_element : {A : Type 0} (xs : List A) → length xs < 1 → xs ≡ []
no_element [] h = refl
no_element (x ∷ xs) h = let none : ⊥ = omega arith in absurd none

pub returns-then-place-kinds : goal.returns-then-place-kinds
returns-then-place-kinds c = λ row tokens are.
    let done : c.elements.rest.now ≡ [] = no_element c.elements.rest.now (omega (arith, c.in_default.len_below)) in
    c.elements.invariant row tokens are
    ∙ ap (λ (es : List FormatElement). printed_behind c.elements.layout es c.elements.place c.args.kinds.now row tokens) done
    ∙ finish c.args.kinds.now c.elements.layout c.elements.place row tokens c.if-place-kinds.true
