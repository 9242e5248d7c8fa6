use Rattle.std.proofs.Common.{◌≡◌, rules, subst, ℕ, Some}
use Rattle.std.specs.Prelude.{unwrap_or}
use Rattle.strfmt.proofs.Numbers.{step, Passed, passed_none, passed_more, passed_stop, passed_end}
use Rattle.strfmt.proofs.parts.number.Goals as goal
use Rattle.strfmt.proofs.parts.number.Goals.{in-Some+then-not-is_ascii_digit, in_default}

pub digits-init : goal.digits-init
digits-init c = passed_none c.args.text.now

pub digits-preserved : goal.digits-preserved
digits-preserved c =
    let more = passed_more c.args.text.now _ _ _ _ c.digits.invariant c.in-Some.ensures.cases (search rules) in
    let now : step (unwrap_or c.digits.value 0) c.in-Some.first.now ≡ c.saturating_add.result = search rules in
    let P : ℕ → Type 0 = λ n. Passed c.args.text.now (Some n) c.in-Some.tail.now in
    subst P now more

pub returns : goal.returns
returns c = elim c.match-split_first.branch [
  | in-Some+then-not-is_ascii_digit w ↦ passed_stop _ _ _ _ _ c.digits.invariant w.in-Some.ensures.cases (search rules)
  | in_default w ↦ passed_end _ _ _ c.digits.invariant (search rules)
]
