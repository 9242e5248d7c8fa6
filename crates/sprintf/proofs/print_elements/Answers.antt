use Rattle.std.proofs.Common.{◌≡◌, ℕ, ◌+◌, List, ◌++◌, drop, map, Result, Ok, Err, refl, ap, sym, ◌∙◌, append_assoc, arith, string_bytes}
use Rattle.std.proofs.lemmas.Grind.{common_steps}
use Rattle.sprintf.specs.declared.PrintfError.{PrintfError}
use Rattle.sprintf.specs.Text.{onto, printed}
use Rattle.sprintf.proofs.print_elements.Goals as goal
use Rattle.sprintf.proofs.print_elements.Goals.{in-Verbatim+in_ok-push_str-in-Verbatim, in-Format+in_ok-rest-in-Format}

onto-onto : (a b : List ℕ) (r : Result (List ℕ) PrintfError) → onto a (onto b r) ≡ onto (a ++ b) r
onto-onto a b (Ok t) = ap Ok (sym (append_assoc a b t))
onto-onto a b (Err e) = refl

behind : (old out new done text : List ℕ) → out ≡ old ++ done → new ≡ out ++ text → new ≡ old ++ (done ++ text)
behind old out new done text e f = rw (f, e) (append_assoc old done text)

pub loop-element-preserved : goal.loop-element-preserved
loop-element-preserved g c =
    let done = c.loop-element.invariant in
    let left : Result (List ℕ) PrintfError = printed (drop (c.loop-element.element-index + 1) c.args.elements.now) (map g.P.Printf.meaning c.match-element.rest.now) in
    elim c.match-element.branch [
      | in-Verbatim+in_ok-push_str-in-Verbatim w ↦
          let next : printed (drop c.loop-element.element-index c.args.elements.now) (map g.P.Printf.meaning c.loop-element.rest.now) ≡ onto w.in-Verbatim.text.now left = grind (arith, common_steps) in (
            done.0 ++ w.in-Verbatim.text.now,
            behind _ _ _ done.0 _ done.1 (ap string_bytes w.out-is ∙ w.in_ok-push_str-in-Verbatim.ensures.bytes),
            done.2 ∙ ap (onto done.0) next ∙ onto-onto done.0 w.in-Verbatim.text.now left,
          )
      | in-Format+in_ok-rest-in-Format w ↦
          let field = w.in_ok-rest-in-Format.ensures.text in
          let next : printed (drop c.loop-element.element-index c.args.elements.now) (map g.P.Printf.meaning c.loop-element.rest.now) ≡ onto field.0 left = grind (arith, common_steps) in (
            done.0 ++ field.0,
            behind _ _ _ done.0 _ done.1 (ap string_bytes w.out-is ∙ field.2),
            done.2 ∙ ap (onto done.0) next ∙ onto-onto done.0 field.0 left,
          )
    ]
