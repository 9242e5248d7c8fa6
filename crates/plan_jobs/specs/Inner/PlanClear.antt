-- The rules of the job that plans are clear.
use Rattle.std.proofs.Common.{◌≡◌, ℕ, List, sym, ap, ◌∙◌}
use Rattle.row_format.specs.Columns.{Columns}
use Rattle.row_format.specs.Planned.{planned_text}
use Rattle.line_job.specs.Laws.{AreClear}
use Rattle.header_lines.specs.declared.cause.LineCause.{LineCause}
use Rattle.header_lines.proofs.ClearHeaders.{header_lines_are_clear}
use Rattle.plan_jobs.specs.Plan.{PlanStage, heading_next, after, format_next, planned, Keeps, Refuses, Ends, Misses, plan_rules}

one_text : (stage : PlanStage) (number : ℕ) (line a b : List ℕ) (s t : PlanStage) → Keeps stage number line a s → Keeps stage number line b t → (a ≡ b) × (s ≡ t)
one_text (heading_next heading) number line a b s t (e, (headed, is, n)) (f, (other, too, m)) =
    (e ∙ sym f, n ∙ ap after (header_lines_are_clear.one_thing.heading heading line headed other is too) ∙ sym m)
one_text (format_next fields) number line a b s t (e, (elements, spelled, is, n)) (f, (others, also, too, m)) =
    (e ∙ sym f, n ∙ ap (λ (c : Columns). planned (planned_text c fields.kinds)) (header_lines_are_clear.one_thing.columns line elements others spelled also) ∙ sym m)
one_text (planned plan) number line a b s t h k = absurd h

one_cause : (stage : PlanStage) (number : ℕ) (line : List ℕ) (why other : LineCause) → Refuses stage number line why → Refuses stage number line other → why ≡ other
one_cause (heading_next heading) number line why other h k = header_lines_are_clear.one_cause.heading heading number line why other h k
one_cause (format_next fields) number line why other h k = header_lines_are_clear.one_cause.format number fields.kinds line why other h k
one_cause (planned plan) number line why other h k = absurd h

never_both : (stage : PlanStage) (number : ℕ) (line a : List ℕ) (next : PlanStage) (why : LineCause) → Keeps stage number line a next → Refuses stage number line why → ⊥
never_both (heading_next heading) number line a next why (e, (headed, is, n)) k = header_lines_are_clear.never_both.heading heading number line headed why is k
never_both (format_next fields) number line a next why (e, (elements, spelled, is, n)) k = header_lines_are_clear.never_both.format number fields.kinds line why (elements, spelled, is) k
never_both (planned plan) number line a next why h k = k

one_end : (stage : PlanStage) (a b : List ℕ) → Ends stage a → Ends stage b → a ≡ b
one_end (heading_next heading) a b h k = absurd h
one_end (format_next fields) a b h k = absurd h
one_end (planned plan) a b h k = h ∙ sym k

one_lack : (stage : PlanStage) (before : ℕ) (why other : LineCause) → Misses stage before why → Misses stage before other → why ≡ other
one_lack (heading_next heading) before why other h k = h ∙ sym k
one_lack (format_next fields) before why other h k = h ∙ sym k
one_lack (planned plan) before why other h k = absurd h

no_end_is_missed : (stage : PlanStage) (before : ℕ) (a : List ℕ) (why : LineCause) → Ends stage a → Misses stage before why → ⊥
no_end_is_missed (heading_next heading) before a why h k = h
no_end_is_missed (format_next fields) before a why h k = h
no_end_is_missed (planned plan) before a why h k = k

pub plan_clear : AreClear plan_rules
plan_clear = record { one_text = one_text; one_cause = one_cause; never_both = never_both; one_end = one_end; one_lack = one_lack; no_end_is_missed = no_end_is_missed }
