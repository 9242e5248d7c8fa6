-- What is written for all of an input.
use Rattle.std.specs.Prelude.{◌≡◌, ℕ, List, [], ◌∷◌, ◌++◌, IfSome, All, Ok}
use Rattle.std.specs.Str.{IsUtf8}
use Rattle.std.specs.Io.KnownBytes.{IsAtEnd}
use Rattle.sprintf.specs.Grammar.{IsFormat}
use Rattle.sprintf.specs.declared.parser.FormatElement.{FormatElement}
use Rattle.whiteread.specs.Lines.{lines_of, line_feed}
use Rattle.line_job.specs.Ends.{Seen, SourceState, SinkState, Took}
use Rattle.row_format.specs.Columns.{columns_of}
use Rattle.row_format.specs.Plannable.{IsPlannable}
use Rattle.row_format.specs.Planned.{planned_text}
use Rattle.header_lines.specs.Heading.{Fields, AreHeading}
use Rattle.translation.specs.declared.target.Target.{Target}
use Rattle.translation.specs.Translated.{translated}
use Rattle.plan_jobs.specs.Scan.{AreTokens, tab_joined}

-- The text is the planned text of the format, over the kinds in front of it, and a line feed; whatever comes after.
pub record IsPlanOf (lines : List (List ℕ)) (text : List ℕ) : Type 0 where
  pub heading : List (List ℕ)
  pub fields : Fields
  pub format_line : List ℕ
  pub others : List (List ℕ)
  pub elements : List FormatElement
  pub lines_are : lines ≡ heading ++ format_line ∷ others
  pub heading_utf8 : All IsUtf8 heading
  pub format_utf8 : IsUtf8 format_line
  pub says : AreHeading heading fields
  pub spelled : IsFormat format_line elements
  pub plannable : IsPlannable (columns_of elements).columns fields.kinds
  pub text_is : text ≡ planned_text (columns_of elements) fields.kinds ++ line_feed ∷ []

-- All of the known input was read, and the known output grew by the planned text of its format.
abbrev pub PlansAll : Seen SourceState → Seen SinkState → Type 0
PlansAll input output = IfSome input.before.rest (λ bytes. IsAtEnd input.after.rest × ((text : List ℕ) × IsPlanOf (lines_of bytes) text × Took output text))

-- The text is the template to which the format is translated, over the kinds in front of it, and a line feed; whatever comes after.
pub record IsTranslationOf (target : Target) (lines : List (List ℕ)) (text : List ℕ) : Type 0 where
  pub heading : List (List ℕ)
  pub fields : Fields
  pub format_line : List ℕ
  pub others : List (List ℕ)
  pub elements : List FormatElement
  pub template : List ℕ
  pub lines_are : lines ≡ heading ++ format_line ∷ others
  pub heading_utf8 : All IsUtf8 heading
  pub format_utf8 : IsUtf8 format_line
  pub says : AreHeading heading fields
  pub spelled : IsFormat format_line elements
  pub template_is : translated elements fields.kinds target ≡ Ok template
  pub text_is : text ≡ template ++ line_feed ∷ []

-- All of the known input was read, and the known output grew by the template to which its format is translated.
abbrev pub TranslatesAll : Target → Seen SourceState → Seen SinkState → Type 0
TranslatesAll target input output = IfSome input.before.rest (λ bytes. IsAtEnd input.after.rest × ((text : List ℕ) × IsTranslationOf target (lines_of bytes) text × Took output text))

-- The text is, for each line in order, its tokens by the format with tabs between them, and a line feed.
abbrev pub AreScanned : List ℕ → List (List ℕ) → List ℕ → Type 0
AreScanned format [] text = text ≡ []
AreScanned format (line ∷ lines) text = (tokens : List (List ℕ)) × (rest : List ℕ) × IsUtf8 line × AreTokens format line tokens × (text ≡ tab_joined tokens ++ line_feed ∷ rest) × AreScanned format lines rest

-- All of the known input was read, and the known output grew by the tokens of its lines.
abbrev pub ScansAll : List ℕ → Seen SourceState → Seen SinkState → Type 0
ScansAll format input output = IfSome input.before.rest (λ bytes. IsAtEnd input.after.rest × ((text : List ℕ) × AreScanned format (lines_of bytes) text × Took output text))
