-- Laws of templates, each carried by a function of the crate with an empty body.
use Rattle.std.specs.Prelude.{◌≡◌, ◌↔◌, ◌≤◌, ◌+◌, ℕ, true, false, List, [], length, chars, IfSome, IsUtf8, if◌then◌else◌, Option, Some, None, Result, Ok, Err}
use Rattle.std.specs.Char.{IsScalar}
use Rattle.formatx.specs.Fault.{Fault, missing}
use Rattle.formatx.specs.Grammar.{Reads}
use Rattle.formatx.specs.Values.{Meaning}
use Rattle.formatx.specs.Field.{field_text}
use Rattle.formatx.specs.Scene.{Scene}
use Rattle.formatx.specs.Counts.{precision_of}
use Rattle.formatx.specs.Arguments.{argument_name, precision_takes, value_at}
use Rattle.formatx.specs.Text.{Prints, segment_text}
use Rattle.formatx.specs.declared.ast.FormatSpec.{FormatSpec}
use Rattle.formatx.specs.declared.ast.FormatType.TheVariants.{Display}
use Rattle.formatx.specs.declared.ast.Placeholder.{Placeholder}
use Rattle.formatx.specs.declared.ast.Segment.{Segment}
use Rattle.formatx.specs.declared.ast.Span.{Span}
use Rattle.formatx.specs.declared.ast.Segment.TheVariants.{Placeholder as Placed}
use Rattle.formatx.specs.declared.value.Shape.TheVariants.{Raw}

-- strict and lenient printing agree, but where the strict one refuses a missing value
abbrev pub FinishesAgree : Type 0
FinishesAgree = (scene : Scene) (r : Result (List ℕ) Fault) → ((name : List ℕ) (s : Span) → ¬ Prints (record scene { strict = true }) (Err (missing name s)))
    → (Prints (record scene { strict = true }) r ↔ Prints (record scene { strict = false }) r)

-- where a placeholder's value isn't there, and its precision is, a strict finish refuses it by its name and its span, and a
-- lenient one has the empty text in its place
abbrev pub MissingIsEmpty : Type 0
MissingIsEmpty = (scene : Scene) (next : ℕ) (p : Placeholder) (precision : Option ℕ) → let own = next + precision_takes p.spec.precision in
    precision_of scene next p.spec.precision ≡ Ok precision → value_at scene own p.argument ≡ None
    → segment_text scene next (Placed p) ≡ (if scene.strict then Err (missing (argument_name scene.source own p.argument) p.span) else Ok [])

-- a printed field whose shape isn't raw has at least its width in characters
abbrev pub FieldsAreWide : Type 0
FieldsAreWide = (spec : FormatSpec) (m : Meaning) (width : ℕ) (precision : Option ℕ) → spec.format_type ≡ Display → IfSome spec.fill IsScalar
    → IsUtf8 m.display → ¬ (m.display_shape ≡ Raw) → width ≤ length (chars (field_text spec m (Some width) precision))

-- reading a source gives one thing: the segments of one template or one first fault, and never both
abbrev pub HasOneReading : Type 0
HasOneReading = (source : List ℕ) (this that : Result (List Segment) Fault) → Reads source this → Reads source that → this ≡ that
