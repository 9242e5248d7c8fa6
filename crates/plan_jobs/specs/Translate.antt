-- The rules of the command that translates: the lines up to the format are judged, the rest is read, and the template is written at the end.
use Rattle.std.specs.Prelude.{◌≡◌, ◌⊎◌, ℕ, List, [], ◌∷◌, ◌++◌, Bool, true, false, Ok, Err}
use Rattle.sprintf.specs.Grammar.{IsFormat, IsNoFormat}
use Rattle.sprintf.specs.declared.parser.FormatElement.{FormatElement}
use Rattle.whiteread.specs.Lines.{line_feed}
use Rattle.values.specs.declared.kind.Kind.{Kind}
use Rattle.line_job.specs.Rules.{Rules}
use Rattle.header_lines.specs.Heading.{Fields, Heading, Headed, more, format_next as to_format, KeepsHeading, heading_number, number_in}
use Rattle.translation.specs.declared.target.Target.{Target}
use Rattle.translation.specs.Translated.{translated}
use Rattle.plan_jobs.specs.declared.cause.TranslateCause.{TranslateCause}
use Rattle.plan_jobs.specs.declared.cause.TranslateCause.TheVariants.{Header, SourceFormat, Element}

-- The target and which line comes next, and what the lines before it said; at last the template.
pub data TranslateStage : Type 0 where
  heading_next : Target → Heading → TranslateStage
  format_next : Target → Fields → TranslateStage
  translated_to : List ℕ → TranslateStage

-- The stage after a line in front of the format.
abbrev pub after : Target → Headed → TranslateStage
after target (more heading) = heading_next target heading
after target (to_format fields) = format_next target fields

-- The lines up to the format are judged, and no other.
abbrev pub judges : TranslateStage → Bool
judges (heading_next target heading) = true
judges (format_next target fields) = true
judges (translated_to template) = false

-- A line is kept by its rule, and nothing is owed for it.
abbrev pub Keeps : TranslateStage → ℕ → List ℕ → List ℕ → TranslateStage → Type 0
Keeps (heading_next target heading) number line text next = (text ≡ []) × ((headed : Headed) × KeepsHeading heading line headed × (next ≡ after target headed))
Keeps (format_next target fields) number line text next = (text ≡ [])
    × ((elements : List FormatElement) × (template : List ℕ) × IsFormat line elements × (translated elements fields.kinds target ≡ Ok template) × (next ≡ translated_to template))
Keeps (translated_to template) number line text next = ⊥

-- A format line is refused: it is no printf format, or one of its elements has no translation.
abbrev pub RefusesFormat : Target → ℕ → List Kind → List ℕ → TranslateCause → Type 0
RefusesFormat target number kinds line why = (IsNoFormat line × (why ≡ SourceFormat number))
    ⊎ ((elements : List FormatElement) × (place : ℕ) × IsFormat line elements × (translated elements kinds target ≡ Err place) × (why ≡ Element number place))

-- A line is refused by its rule.
abbrev pub Refuses : TranslateStage → ℕ → List ℕ → TranslateCause → Type 0
Refuses (heading_next target heading) number line why = ((headed : Headed) → ¬ KeepsHeading heading line headed) × (why ≡ Header number)
Refuses (format_next target fields) number line why = RefusesFormat target number fields.kinds line why
Refuses (translated_to template) number line why = ⊥

-- The input may end after the format, and then the template and a line feed are owed.
abbrev pub Ends : TranslateStage → List ℕ → Type 0
Ends (heading_next target heading) text = ⊥
Ends (format_next target fields) text = ⊥
Ends (translated_to template) text = text ≡ template ++ line_feed ∷ []

-- A header is missing: that which comes next.
abbrev pub Misses : TranslateStage → ℕ → TranslateCause → Type 0
Misses (heading_next target heading) before why = why ≡ Header (heading_number heading)
Misses (format_next target fields) before why = why ≡ Header (number_in fields.version 2)
Misses (translated_to template) before why = ⊥

-- The rules of the command.
abbrev pub translate_rules : Rules TranslateStage TranslateCause
translate_rules = record { judges = judges; keeps = Keeps; refuses = Refuses; ends = Ends; misses = Misses }
