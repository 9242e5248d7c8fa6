use Rattle.std.proofs.Common.{◌≡◌, ℕ, List, ◌++◌, string_bytes, drop, map}
use Rattle.sprintf.specs.Text.{onto, printed}
use Rattle.sprintf.proofs.print_elements.Given as goal

abbrev pub invariant-loop-element : goal.invariant-loop-element
invariant-loop-element g l =
    (done : List ℕ) × (string_bytes l.out ≡ string_bytes l.fn.out ++ done) × (printed l.elements (map g.P.Printf.meaning l.fn.args) ≡ onto done (printed (drop l.element-index l.elements) (map g.P.Printf.meaning l.rest)))
