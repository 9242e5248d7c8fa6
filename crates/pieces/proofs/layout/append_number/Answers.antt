use Rattle.std.proofs.Common.{◌≡◌, ◌++◌, ◌<◌, ◌^◌, ℕ, List, false, OnOk, string_bytes, sym, ◌∙◌, subst, rules, arith}
use Rattle.numerals.specs.Numeral.{numeral}
use Rattle.pieces.proofs.layout.append_number.Goals as goal

pub returns-clause-ok : goal.returns-clause-ok
returns-clause-ok c =
    let fits : c.args.number < 2 ^ 64 = omega (arith, c.ranges.number.fits) in
    let same : c.format.result.now ≡ numeral 10 false c.args.number = c.format.ensures.text ∙ sym (c.numeral_is_std.ensures 10 c.args.number false (omega arith) fits) in
    let appended : OnOk c.push_str.result (string_bytes c.push_str.new.self ≡ string_bytes c.args.out.now ++ c.format.result.now) = search rules in
    subst (λ (digits : List ℕ). OnOk c.push_str.result (string_bytes c.push_str.new.self ≡ string_bytes c.args.out.now ++ digits)) same appended
