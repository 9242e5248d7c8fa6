-- Where the job that plans stands, by what it keeps.
use Rattle.row_format.specs.Planned.{planned_text}
use Rattle.header_lines.specs.Read.{fields_of, heading_of}
use Rattle.plan_jobs.specs.declared.plan.State.{State}
use Rattle.plan_jobs.specs.declared.plan.State.TheVariants.{Heading, Format, Planned}
use Rattle.plan_jobs.specs.Plan.{PlanStage, heading_next, format_next, planned}

-- the stage that the state is at
abbrev pub stage_of : State → PlanStage
stage_of (Heading heading) = heading_next (heading_of heading)
stage_of (Format fields) = format_next (fields_of fields)
stage_of (Planned plan) = planned (planned_text plan.format plan.kinds)
