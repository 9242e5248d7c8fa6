-- The rules of the command that plans: the lines up to the format are judged, the rest is read, and the planned text is written at the end.
use Rattle.std.specs.Prelude.{◌≡◌, ℕ, List, [], ◌∷◌, ◌++◌, Bool, true, false}
use Rattle.sprintf.specs.Grammar.{IsFormat}
use Rattle.sprintf.specs.declared.parser.FormatElement.{FormatElement}
use Rattle.whiteread.specs.Lines.{line_feed}
use Rattle.line_job.specs.Rules.{Rules}
use Rattle.row_format.specs.Columns.{columns_of}
use Rattle.row_format.specs.Plannable.{IsPlannable}
use Rattle.row_format.specs.Planned.{planned_text}
use Rattle.header_lines.specs.Headers.{RefusesFormatLine}
use Rattle.header_lines.specs.Heading.{Fields, Heading, Headed, more, format_next as to_format, KeepsHeading, RefusesHeading, heading_number, number_in}
use Rattle.header_lines.specs.declared.cause.LineCause.{LineCause}
use Rattle.header_lines.specs.declared.cause.LineCause.TheVariants.{Header}

-- Which line comes next, and what the lines before it said; at last the planned text.
pub data PlanStage : Type 0 where
  heading_next : Heading → PlanStage
  format_next : Fields → PlanStage
  planned : List ℕ → PlanStage

-- The stage after a line in front of the format.
abbrev pub after : Headed → PlanStage
after (more heading) = heading_next heading
after (to_format fields) = format_next fields

-- The lines up to the format are judged, and no other.
abbrev pub judges : PlanStage → Bool
judges (heading_next heading) = true
judges (format_next fields) = true
judges (planned text) = false

-- A line is kept by its rule, and nothing is owed for it.
abbrev pub Keeps : PlanStage → ℕ → List ℕ → List ℕ → PlanStage → Type 0
Keeps (heading_next heading) number line text next = (text ≡ []) × ((headed : Headed) × KeepsHeading heading line headed × (next ≡ after headed))
Keeps (format_next fields) number line text next = (text ≡ [])
    × ((elements : List FormatElement) × IsFormat line elements × IsPlannable (columns_of elements).columns fields.kinds × (next ≡ planned (planned_text (columns_of elements) fields.kinds)))
Keeps (planned plan) number line text next = ⊥

-- A line is refused by its rule.
abbrev pub Refuses : PlanStage → ℕ → List ℕ → LineCause → Type 0
Refuses (heading_next heading) number line why = RefusesHeading heading number line why
Refuses (format_next fields) number line why = RefusesFormatLine number fields.kinds line why
Refuses (planned plan) number line why = ⊥

-- The input may end after the format, and then the planned text and a line feed are owed.
abbrev pub Ends : PlanStage → List ℕ → Type 0
Ends (heading_next heading) text = ⊥
Ends (format_next fields) text = ⊥
Ends (planned plan) text = text ≡ plan ++ line_feed ∷ []

-- A header is missing: that which comes next.
abbrev pub Misses : PlanStage → ℕ → LineCause → Type 0
Misses (heading_next heading) before why = why ≡ Header (heading_number heading)
Misses (format_next fields) before why = why ≡ Header (number_in fields.version 2)
Misses (planned plan) before why = ⊥

-- The rules of the command.
abbrev pub plan_rules : Rules PlanStage LineCause
plan_rules = record { judges = judges; keeps = Keeps; refuses = Refuses; ends = Ends; misses = Misses }
