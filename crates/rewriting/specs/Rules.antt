-- The rules of the job that rewrites rows.
use Rattle.std.specs.Prelude.{◌≡◌, ◌⊎◌, ℕ, List, [], ◌∷◌, ◌++◌, true, Err}
use Rattle.whiteread.specs.Lines.{line_feed}
use Rattle.values.specs.Datum.{Datum}
use Rattle.line_job.specs.Rules.{Rules}
use Rattle.printer.specs.declared.dialect.Dialect.{Dialect}
use Rattle.header_lines.specs.declared.cause.LineCause.{LineCause}
use Rattle.header_lines.specs.declared.cause.LineCause.TheVariants.{Header, NotARow, Render}
use Rattle.printer.specs.declared.error.RenderFault.{RenderFault}
use Rattle.rewriting.specs.Rewrite.{Layout, IsRow, IsRowOf, Renders, IsRewrittenAs}
use Rattle.header_lines.specs.Heading.{Fields, Heading, Headed, more, format_next as to_format, KeepsHeading, RefusesHeading, heading_number, number_in}
use Rattle.header_lines.specs.Headers.{IsFormatLine, RefusesFormatLine, IsDialectLine, RefusesDialect, IsTemplateLine, RefusesTemplateLine}

-- Which line comes next, and what the lines before it said.
pub data Stage : Type 0 where
  heading_next : Heading → Stage
  format_next : Fields → Stage
  dialect_next : Fields → List ℕ → Stage
  template_next : Fields → List ℕ → Dialect → Stage
  rows_next : Layout → Stage

-- The stage after a line in front of the format.
abbrev pub after : Headed → Stage
after (more heading) = heading_next heading
after (to_format fields) = format_next fields

-- What all headers say.
abbrev pub layout_of : Fields → List ℕ → Dialect → List ℕ → Layout
layout_of fields format dialect template = record { version = fields.version; kinds = fields.kinds; names = fields.names; format = format; dialect = dialect; template = template }

-- The row on this line is refused: it is a row of no values, or that of one list of values of which the template has no text.
abbrev pub RefusesRow : Layout → ℕ → List ℕ → LineCause → Type 0
RefusesRow layout number row why = (((values : List Datum) → ¬ IsRow layout.kinds layout.format row values) × (why ≡ NotARow number))
    ⊎ ((values : List Datum) × (fault : RenderFault) × IsRowOf layout row values × Renders layout values (Err fault) × (why ≡ Render number fault))

-- A header is kept by its rule, and nothing is owed for it; a row is kept where it is rewritten, and the line and a line feed are owed.
abbrev pub Keeps : Stage → ℕ → List ℕ → List ℕ → Stage → Type 0
Keeps (heading_next heading) number line text next = (text ≡ []) × ((headed : Headed) × KeepsHeading heading line headed × (next ≡ after headed))
Keeps (format_next fields) number line text next = (text ≡ []) × IsFormatLine fields.kinds line × (next ≡ dialect_next fields line)
Keeps (dialect_next fields format) number line text next = (text ≡ []) × ((dialect : Dialect) × IsDialectLine line dialect × (next ≡ template_next fields format dialect))
Keeps (template_next fields format dialect) number line text next = (text ≡ []) × IsTemplateLine dialect line × (next ≡ rows_next (layout_of fields format dialect line))
Keeps (rows_next layout) number row text next = ((line : List ℕ) × IsRewrittenAs layout row line × (text ≡ line ++ line_feed ∷ [])) × (next ≡ rows_next layout)

-- A line is refused by its rule.
abbrev pub Refuses : Stage → ℕ → List ℕ → LineCause → Type 0
Refuses (heading_next heading) number line why = RefusesHeading heading number line why
Refuses (format_next fields) number line why = RefusesFormatLine number fields.kinds line why
Refuses (dialect_next fields format) number line why = RefusesDialect number line why
Refuses (template_next fields format dialect) number line why = RefusesTemplateLine number dialect line why
Refuses (rows_next layout) number row why = RefusesRow layout number row why

-- The input may end after the headers, and nothing more is owed.
abbrev pub Ends : Stage → List ℕ → Type 0
Ends (heading_next heading) text = ⊥
Ends (format_next fields) text = ⊥
Ends (dialect_next fields format) text = ⊥
Ends (template_next fields format dialect) text = ⊥
Ends (rows_next layout) text = text ≡ []

-- A header is missing: that which comes next.
abbrev pub Misses : Stage → ℕ → LineCause → Type 0
Misses (heading_next heading) before why = why ≡ Header (heading_number heading)
Misses (format_next fields) before why = why ≡ Header (number_in fields.version 2)
Misses (dialect_next fields format) before why = why ≡ Header (number_in fields.version 3)
Misses (template_next fields format dialect) before why = why ≡ Header (number_in fields.version 4)
Misses (rows_next layout) before why = ⊥

-- Every line is judged.
abbrev pub rewrite_rules : Rules Stage LineCause
rewrite_rules = record { judges = λ stage. true; keeps = Keeps; refuses = Refuses; ends = Ends; misses = Misses }
