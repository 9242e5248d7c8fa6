-- Where the job stands, by what it keeps.
use Rattle.std.specs.Prelude.{◌≡◌, ℕ, List, IfSome}
use Rattle.std.specs.Str.{chars}
use Rattle.sprintf.specs.Grammar.{IsFormat}
use Rattle.sprintf.specs.declared.parser.FormatElement.{FormatElement}
use Rattle.values.specs.Datum.{Datum}
use Rattle.row_format.specs.Columns.{columns_of}
use Rattle.row_format.specs.Plannable.{IsPlannable}
use Rattle.row_format.specs.Planned.{planned_text}
use Rattle.row_format.specs.Row.{IsRow}
use Rattle.row_plan.specs.Plan.{Planned}
use Rattle.printer.specs.Text.{Printing}
use Rattle.header_lines.specs.declared.cause.LineCause.{LineCause}
use Rattle.header_lines.specs.declared.cause.LineCause.TheVariants.{NotARow}
use Rattle.header_lines.specs.declared.heading.Version.{Version}
use Rattle.header_lines.specs.declared.heading.Version.TheVariants.{First, Second}
use Rattle.header_lines.specs.declared.heading.Fields.{Fields as FieldsRead}
use Rattle.header_lines.specs.Heading.{first_next, kinds_next, names_next}
use Rattle.header_lines.specs.Read.{fields_of, heading_of}
use Rattle.rewriting.specs.declared.rows.Source.{Source}
use Rattle.rewriting.specs.declared.rows.Rows.{Rows as RowsOf}
use Rattle.rewriting.specs.declared.rewrite.State.{State}
use Rattle.rewriting.specs.declared.rewrite.State.TheVariants.{Heading, Format, Dialect, Template, Rows}
use Rattle.rewriting.specs.Inner.Fast.{FastWay}
use Rattle.rewriting.specs.Rewrite.{Layout}
use Rattle.rewriting.specs.Rules.{Stage, heading_next, format_next, dialect_next, template_next, rows_next}

-- what the headers said, by what is kept of them
abbrev pub layout_of : Version → Source → Printing → Layout
layout_of version source printing = record { version = version; kinds = source.plan.kinds; names = printing.names; format = source.text.now; dialect = printing.dialect; template = printing.template }

-- the way is from the source's rows to the template's lines
pub record IsWayTo (source : Source) (printing : Printing) (way : FastWay) : Type 0 where
  pub format : way.format ≡ source.plan.format
  pub kinds : way.kinds ≡ source.plan.kinds
  pub printing_is : way.printing ≡ printing

-- the stage that the state is at
abbrev pub stage_of : State → Stage
stage_of (Heading heading) = heading_next (heading_of heading)
stage_of (Format fields) = format_next (fields_of fields)
stage_of (Dialect fields source) = dialect_next (fields_of fields) source.text.now
stage_of (Template fields source dialect) = template_next (fields_of fields) source.text.now dialect
stage_of (Rows version rows) = rows_next (layout_of version rows.source rows.printer)

-- the version that the lines before the stage said; the first, where there are none
abbrev pub version_of : Stage → Version
version_of (heading_next first_next) = First
version_of (heading_next kinds_next) = Second
version_of (heading_next (names_next kinds)) = Second
version_of (format_next fields) = fields.version
version_of (dialect_next fields format) = fields.version
version_of (template_next fields format dialect) = fields.version
version_of (rows_next layout) = layout.version

-- a header line comes next
abbrev pub IsHeaderNext : State → Type 0
IsHeaderNext (Heading heading) = Unit {0}
IsHeaderNext (Format fields) = Unit {0}
IsHeaderNext (Dialect fields source) = Unit {0}
IsHeaderNext (Template fields source dialect) = Unit {0}
IsHeaderNext (Rows version rows) = ⊥

-- the plan is that of the format's text, and the scanning format is the planned text
pub record IsSoundSource (source : Source) : Type 0 where
  pub elements : List FormatElement
  pub spelled : IsFormat source.text.now elements
  pub plannable : IsPlannable (columns_of elements).columns source.plan.kinds
  pub columns : source.plan.format ≡ columns_of elements
  pub cut : source.format ≡ chars (planned_text source.plan.format source.plan.kinds)

-- the source is sound, and the fast way, if there is one, is from its rows to the template's lines
abbrev pub IsSoundRows : RowsOf → Type 0
IsSoundRows rows = IsSoundSource rows.source × IfSome rows.fast (IsWayTo rows.source rows.printer)

-- the plan is sound, and of the kinds of these fields
abbrev pub IsPlanFor : FieldsRead → Source → Type 0
IsPlanFor fields source = IsSoundSource source × (source.plan.kinds ≡ fields.kinds.items)

-- what is kept of the headers is what they said
abbrev pub IsSoundState : State → Type 0
IsSoundState (Heading heading) = Unit {0}
IsSoundState (Format fields) = Unit {0}
IsSoundState (Dialect fields source) = IsPlanFor fields source
IsSoundState (Template fields source dialect) = IsPlanFor fields source
IsSoundState (Rows version rows) = IsSoundRows rows

-- the line of this number is a row of no values of the plan
abbrev pub IsNoRow : Planned → ℕ → List ℕ → LineCause → Type 0
IsNoRow plan number line why = ((values : List Datum) → ¬ IsRow plan.format plan.kinds line values) × (why ≡ NotARow number)
