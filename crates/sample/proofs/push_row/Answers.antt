use Rattle.std.proofs.Common.{arith, ap, ◌∙◌, ◌≡◌, ◌++◌, ℕ, List, false, append_assoc, string_bytes, codes}
use Rattle.numerals.specs.Numeral.{numeral}
use Rattle.sample.specs.Sample.{eight_digits, first_field, second_field, third_field}
use Rattle.std.proofs.lemmas.Grind.{common_steps}
use Rattle.std.proofs.lemmas.Result.{on_ok_weaker}
use Rattle.sample.proofs.push_row.Goals as goal

in_order : (old first space second third x y z new : List ℕ) (p q : List ℕ) → x ≡ old ++ first → y ≡ x ++ space → z ≡ y ++ (second ++ p) → new ≡ z ++ (third ++ q) → new ≡ old ++ (((((first ++ space) ++ second) ++ p) ++ third) ++ q)
in_order old first space second third x y z new p q a b c d = grind (arith, common_steps, append_assoc)

pub returns : goal.returns
returns c =
    let first = c.in_ok-push_eight_digits.ensures ∙ ap (λ n. string_bytes c.args.out.now ++ eight_digits (numeral 16 false n)) c.first_number.ensures in
    on_ok_weaker c.push_third_field.result
    (in_order (string_bytes c.args.out.now) (first_field c.args.k) (codes " ") (second_field c.args.k) (third_field c.args.k) _ _ _ _ (codes " ") (codes "\n") first c.in_ok-push_text.ensures c.in_ok-push_second_field.ensures)
    c.push_third_field.ensures
