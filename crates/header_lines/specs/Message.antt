-- What is told of a refused line.
use Rattle.std.specs.Prelude.{◌≡◌, ◌<◌, ◌^◌, ◌++◌, ℕ, List, codes, decimal}
use Rattle.line_job.specs.declared.stop.Stop.{Stop}
use Rattle.line_job.specs.declared.stop.Stop.TheVariants.{Line, NotUtf8}
use Rattle.line_job.specs.Told.{line_message, stop_message}
use Rattle.separation.specs.declared.Refused.{Refused}
use Rattle.separation.specs.declared.Refused.TheVariants.{Kind, Lossy, RunsOn}
use Rattle.printer.specs.declared.error.TemplateFault.{TemplateFault}
use Rattle.printer.specs.declared.error.TemplateFault.TheVariants.{Printf, Formatx}
use Rattle.printer.specs.declared.error.RenderFault.{RenderFault}
use Rattle.printer.specs.declared.error.RenderFault.TheVariants.{WrongType, TooManyArgs, NotEnoughArgs, Invalid, KeyError, TypeError, Parse, MissingArgument, UnsupportedTrait}
use Rattle.header_lines.specs.declared.cause.LineCause.{LineCause}
use Rattle.header_lines.specs.declared.cause.LineCause.TheVariants.{Header, SourceFormat, Refused as OfFormat, Template, NotARow, Render}

-- What is wrong with a format whose rows can't be read back.
abbrev pub refused_text : Refused → List ℕ
refused_text (Kind field) = codes "field " ++ (decimal field ++ codes ": kind")
refused_text (Lossy field) = codes "field " ++ (decimal field ++ codes ": lossy")
refused_text (RunsOn field) = codes "field " ++ (decimal field ++ codes ": runs on")

-- What is wrong with a text that is no template.
abbrev pub template_text : TemplateFault → List ℕ
template_text Printf = codes "not a printf template"
template_text Formatx = codes "not a formatx template"

-- What is wrong where a template has no text for the values of a line.
abbrev pub fault_text : RenderFault → List ℕ
fault_text WrongType = codes "template fault: WrongType"
fault_text TooManyArgs = codes "template fault: TooManyArgs"
fault_text NotEnoughArgs = codes "template fault: NotEnoughArgs"
fault_text Invalid = codes "template fault: Invalid"
fault_text KeyError = codes "template fault: KeyError"
fault_text TypeError = codes "template fault: TypeError"
fault_text Parse = codes "template fault: Parse"
fault_text MissingArgument = codes "template fault: MissingArgument"
fault_text UnsupportedTrait = codes "template fault: UnsupportedTrait"

-- The message of each cause.
abbrev pub cause_message : LineCause → List ℕ
cause_message (Header line) = line_message line (codes "bad header")
cause_message (SourceFormat line) = line_message line (codes "not a printf format")
cause_message (OfFormat line why) = line_message line (refused_text why)
cause_message (Template line why) = line_message line (template_text why)
cause_message (NotARow line) = line_message line (codes "not a row")
cause_message (Render line fault) = line_message line (fault_text fault)

-- The line that a refusal names, and 0 where it names none.
abbrev pub line_of : Stop LineCause → ℕ
line_of (Line (Header line)) = line
line_of (Line (SourceFormat line)) = line
line_of (Line (OfFormat line why)) = line
line_of (Line (Template line why)) = line
line_of (Line (NotARow line)) = line
line_of (Line (Render line fault)) = line
line_of (NotUtf8 line) = line
line_of _ = 0

-- The field that a refused format names.
abbrev pub refused_field : Refused → ℕ
refused_field (Kind field) = field
refused_field (Lossy field) = field
refused_field (RunsOn field) = field

-- The field that a refusal names, and 0 where it names none.
abbrev pub field_of : Stop LineCause → ℕ
field_of (Line (OfFormat line why)) = refused_field why
field_of _ = 0

-- The numbers that a refusal names are below 2^64.
pub record NamesSmall (stop : Stop LineCause) : Type 0 where
  pub line : line_of stop < 2 ^ 64
  pub field : field_of stop < 2 ^ 64

-- Two different refusals never have the same message.
abbrev pub MessagesDiffer : Type 0
MessagesDiffer = (a b : Stop LineCause) → NamesSmall a → NamesSmall b → stop_message cause_message a ≡ stop_message cause_message b → a ≡ b
