use Rattle.std.proofs.Common.{◌+◌, map, ◌∙◌, ap, arith, w32, List, ℕ}
use lib.Lanes.{products, sum_l}
use Rattle.std.proofs.lemmas.Simd.{fold-sum, sum_fits}
use Rattle.columns.proofs.Eights.{products_fit, as_they_are, small_as_they_are}
use Rattle.columns.proofs.eight.sum_of.Goals as goal

pub overflow_mul-parts : goal.overflow_mul-parts
overflow_mul-parts c = products_fit (map (λ x. x) c.args.digits) c.args.places (small_as_they_are c.args.digits c.args.places c.requires.small)

pub overflow_add-parts : goal.overflow_add-parts
overflow_add-parts c = sum_fits w32 0 (products (map (λ x. x) c.args.digits) c.args.places) (omega (arith, small_as_they_are c.args.digits c.args.places c.requires.small))

pub returns : goal.returns
returns c = c.from.ensures ∙ fold-sum 0 (products (map (λ x. x) c.args.digits) c.args.places) ∙ ap (λ (v : List ℕ). 0 + sum_l (products v c.args.places)) (as_they_are c.args.digits) ∙ omega arith
