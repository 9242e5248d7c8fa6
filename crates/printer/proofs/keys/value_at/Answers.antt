use Rattle.std.proofs.Common.{rules, ◌≡◌, ◌≤◌, ◌^◌, ℕ, length, arith, Option, Some, None, ap, ◌∙◌, sym}
use Rattle.std.specs.Prelude.{option_copied, slice_get, option_and_then}
use Rattle.std.specs.Option.{option_map}
use Rattle.std.proofs.lemmas.Grind.{common_steps}
use Rattle.std.proofs.lemmas.Option.{gets}
use Rattle.values.specs.declared.value.Value.{Value}
use Rattle.values.specs.Templates.{value_display}
use Rattle.printer.proofs.KeyLemmas.{value_found}
use Rattle.printer.proofs.keys.value_at.Goals as goal

pub returns-in_err-place : goal.returns-in_err-place
returns-in_err-place c =
    let short : length c.args.values.now ≤ 2 ^ 64 = omega arith in
    let at = c.place_at_key.ensures in
    let it = value_found c.args.names.now c.args.values.now c.args.key.now at.0 at.1 short in
    let none : c.place_at_key.result ≡ None = search rules in
    rw c.from_residual.ensures (ap (λ (o : Option ℕ). option_map value_display (option_and_then (λ i. slice_get c.args.values.now i) o)) (sym none ∙ at.2) ∙ it)

pub returns : goal.returns
returns c =
    let short : length c.args.values.now ≤ 2 ^ 64 = omega arith in
    let at = c.place_at_key.ensures in
    let it = value_found c.args.names.now c.args.values.now c.args.key.now at.0 at.1 short in
    let some : c.place_at_key.result ≡ Some c.in_ok-place.place = search rules in
    let got : option_copied c.get.result ≡ slice_get c.args.values.now c.in_ok-place.place = grind (arith, common_steps, gets) in
    ap (λ (o : Option Value). option_map value_display o) got ∙ ap (λ (o : Option ℕ). option_map value_display (option_and_then (λ i. slice_get c.args.values.now i) o)) (sym some ∙ at.2) ∙ it
