use Rattle.std.proofs.Common.{◌≡◌, true, false, sym, ap, ◌∙◌}
use Rattle.row_format.specs.Plannable.{is_exact}
use Rattle.separation.proofs.Behind.{runs_exactly}
use Rattle.separation.proofs.touching.runs_on.Goals as goal

pub returns-then-may_touch : goal.returns-then-may_touch
returns-then-may_touch c =
    let front = c.in-Some.front in
    let exact = ap (λ f. is_exact f front.kind) (sym c.field.ensures) ∙ sym c.is_exact.ensures ∙ c.if-is_exact.false in
    runs_exactly c.args.columns.now c.args.kinds.now front.column.now front.columns.now front.kind front.kinds.now c.is_followed.result c.in-Some.ensures.columns c.in-Some.ensures.kinds
    (λ _. exact) (λ _. c.may_touch.ensures.0 c.if-may_touch.true) (λ h. c.is_followed.ensures.0 h) (λ _ _ follows. c.is_followed.ensures.1 follows)

pub returns-else-may_touch : goal.returns-else-may_touch
returns-else-may_touch c =
    let front = c.in-Some.front in
    let exact = ap (λ f. is_exact f front.kind) (sym c.field.ensures) ∙ sym c.is_exact.ensures ∙ c.if-is_exact.false in
    runs_exactly c.args.columns.now c.args.kinds.now front.column.now front.columns.now front.kind front.kinds.now c.may_touch.result c.in-Some.ensures.columns c.in-Some.ensures.kinds
    (λ _. exact) (λ h. c.may_touch.ensures.0 h) (λ h. absurd (let bad : true ≡ false = sym h ∙ c.if-may_touch.false in cc)) (λ _ touches _. c.may_touch.ensures.1 touches)
