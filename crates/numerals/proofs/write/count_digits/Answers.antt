use Rattle.std.proofs.Common.{◌≡◌, ◌≤◌, ◌<◌, ◌*◌, ◌^◌, ℕ, sym, ⊎_elim, false, true, arith}
use Rattle.std.proofs.Math.Nat.{pow-suc}
use Rattle.numerals.specs.Numeral.{base_of}
use Rattle.numerals.proofs.Unique.{length-numeral-between, length-numeral-small, le_or_lt}
use Rattle.numerals.proofs.Reading.{base_of-le}
use Rattle.numerals.proofs.write.count_digits.Goals as goal

pub returns-in-Some : goal.returns-in-Some
returns-in-Some c =
    let b : ℕ = base_of c.args.radix in
    let k : ℕ = c.in-Some.power in
    let below : b ^ k ≤ c.args.n = rw c.base.ensures.value at c.in-Some.ensures.power_le in
    let above : c.args.n < b * b ^ k = rw c.base.ensures.value at c.in-Some.ensures.next_power_gt in
    omega (arith, length-numeral-between b c.args.n k false (base_of-le c.args.radix).0 c.ranges.n.fits below (omega (arith, above, pow-suc b k)))

pub returns-in-None : goal.returns-in-None
returns-in-None c =
    let b : ℕ = base_of c.args.radix in
    let low : 2 ≤ b = (base_of-le c.args.radix).0 in
    ⊎_elim
    (λ none. sym (length-numeral-small b c.args.n false low c.ranges.n.fits (omega (arith, none, low))))
    (λ some.
    let h : false ≡ true = c.in-None.ensures.variant.1 some in
    absurd cc)
    (le_or_lt c.args.n 0)
