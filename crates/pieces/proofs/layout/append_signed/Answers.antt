use Rattle.std.proofs.Common.{◌≡◌, ◌++◌, ◌<◌, ◌^◌, ℕ, ℤ, pos, negsuc, suc, List, ◌∷◌, false, OnOk, string_bytes, sym, ap, ◌∙◌, subst, rules, arith, w64, Fits, FitsSigned}
use Rattle.std.specs.Fmt.{signed_decimal}
use Rattle.std.proofs.Math.Facts.{Fits-nat_abs}
use Rattle.std.proofs.lemmas.Int.{to_z-of_z}
use Rattle.numerals.specs.Laws.{NumeralIsStd}
use Rattle.formatx.specs.Values.{decimal_of}
use Rattle.pieces.proofs.layout.append_signed.Goals as goal

signed_is : NumeralIsStd → (z : ℤ) → FitsSigned w64 z → signed_decimal z ≡ decimal_of z
signed_is law (pos n) fits = let fit : Fits w64 n = Fits-nat_abs {w = w64} {w' = w64} {z = pos n} tt fits in let small : n < 2 ^ 64 = omega (arith, fit) in sym (law 10 n false (omega arith) small)
signed_is law (negsuc n) fits = let fit : Fits w64 (suc n) = Fits-nat_abs {w = w64} {w' = w64} {z = negsuc n} tt fits in let small : suc n < 2 ^ 64 = omega (arith, fit) in ap (λ (t : List ℕ). 45 ∷ t) (sym (law 10 (suc n) false (omega arith) small))

pub returns-clause-ok : goal.returns-clause-ok
returns-clause-ok c =
    let same : c.format.result.now ≡ decimal_of c.args.number = c.format.ensures.text ∙ ap signed_decimal (to_z-of_z w64 c.args.number c.ranges.number) ∙ signed_is c.numeral_is_std.ensures c.args.number c.ranges.number in
    let appended : OnOk c.push_str.result (string_bytes c.push_str.new.self ≡ string_bytes c.args.out.now ++ c.format.result.now) = search rules in
    subst (λ (digits : List ℕ). OnOk c.push_str.result (string_bytes c.push_str.new.self ≡ string_bytes c.args.out.now ++ digits)) same appended
