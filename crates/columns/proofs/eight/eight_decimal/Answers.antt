use Rattle.std.proofs.Common.{◌≡◌, ℕ, List, length, w8, sym, subst, false, arith}
use lib.Lanes.{chunk}
use Rattle.std.proofs.lemmas.Simd.{length-chunk, chunk-fits}
use Rattle.columns.specs.Inner.Shapes.{AreDigits}
use Rattle.columns.proofs.Eights.{decimal_of_lanes, decimal_small}
use Rattle.columns.proofs.eight.eight_decimal.Goals as goal

pub sum_of-requires-clause-small : goal.sum_of-requires-clause-small
sum_of-requires-clause-small c =
    let v : List ℕ = chunk 0 8 c.args.text.now in
    let long : length v ≡ 8 = length-chunk 0 8 c.args.text.now (omega (arith, c.if-text-lt-EIGHT.false)) in
    decimal_small v _ long (decimal_of_lanes v long (chunk-fits w8 0 8 c.args.text.now c.type_inv.text) c.if-others-eq0.true)

pub returns-then-others-eq0-clause-digits : goal.returns-then-others-eq0-clause-digits
returns-then-others-eq0-clause-digits c =
    let v : List ℕ = chunk 0 8 c.args.text.now in
    let long : length v ≡ 8 = length-chunk 0 8 c.args.text.now (omega (arith, c.if-text-lt-EIGHT.false)) in
    subst (AreDigits 10 false v) (sym c.sum_of.ensures) (decimal_of_lanes v long (chunk-fits w8 0 8 c.args.text.now c.type_inv.text) c.if-others-eq0.true)
