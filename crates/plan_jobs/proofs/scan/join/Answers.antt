use Rattle.std.proofs.Common.{◌≡◌, ◌∷◌, ◌++◌, List, ℕ, ap, sym, ◌∙◌, string_bytes, rules}
use Rattle.scan_fmt.specs.Slices.{slices_left}
use Rattle.plan_jobs.specs.Scan.{tab_joined}
use Rattle.plan_jobs.proofs.Joining.{behind, joined_first}
use Rattle.plan_jobs.proofs.scan.join.Goals as goal

pub others-init : goal.others-init
others-init c =
    let step : slices_left c.args.tokens ≡ c.in-Some.first.now ∷ slices_left c.into_iter-token-iterator.result = search rules in
    let bytes : string_bytes c.push_str.new.self ≡ c.in-Some.first.now = search rules in
    (tt, tt, ap tab_joined step ∙ joined_first c.in-Some.first.now (slices_left c.into_iter-token-iterator.result) ∙ ap (λ (t : List ℕ). t ++ behind (slices_left c.into_iter-token-iterator.result)) (sym bytes))
