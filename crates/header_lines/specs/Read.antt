-- What is kept of header lines that were read.
use Rattle.std.specs.Prelude.{◌≡◌, ℕ, List, map}
use Rattle.sprintf.specs.Grammar.{IsFormat}
use Rattle.sprintf.specs.declared.parser.FormatElement.{FormatElement}
use Rattle.values.specs.declared.kind.Kind.{Kind}
use Rattle.row_format.specs.Columns.{columns_of}
use Rattle.row_format.specs.Plannable.{IsPlannable}
use Rattle.row_plan.specs.Plan.{Planned}
use Rattle.values.specs.Datum.{word_text}
use Rattle.header_lines.specs.Heading.{Fields, Heading, first_next, kinds_next, names_next, Headed, more, format_next}
use Rattle.header_lines.specs.declared.heading.Fields.{Fields as FieldsRead}
use Rattle.header_lines.specs.declared.heading.Heading.{Heading as HeadingRead}
use Rattle.header_lines.specs.declared.heading.Heading.TheVariants.{First, Kinds, Names}
use Rattle.header_lines.specs.declared.heading.Headed.{Headed as HeadedRead}
use Rattle.header_lines.specs.declared.heading.Headed.TheVariants.{More, Format}

-- The plan is that of the format line over these kinds, whose rows can be read back.
pub record IsReadFormat (line : List ℕ) (kinds : List Kind) (plan : Planned) : Type 0 where
  pub elements : List FormatElement
  pub spelled : IsFormat line elements
  pub plannable : IsPlannable (columns_of elements).columns kinds
  pub plan_is : plan ≡ record { format = columns_of elements; kinds = kinds }

-- What is kept of the fields, as plain data.
abbrev pub fields_of : FieldsRead → Fields
fields_of fields = record { version = fields.version; kinds = fields.kinds.items; names = map word_text fields.names.items }

-- Which line comes next, as plain data.
abbrev pub heading_of : HeadingRead → Heading
heading_of First = first_next
heading_of Kinds = kinds_next
heading_of (Names kinds) = names_next kinds.items

-- What comes after a line, as plain data.
abbrev pub headed_of : HeadedRead → Headed
headed_of (More heading) = more (heading_of heading)
headed_of (Format fields) = format_next (fields_of fields)
