-- What a template prints over values: the text of each segment in order, up to the first fault.
use Rattle.std.specs.Prelude.{◌≡◌, ℕ, ◌+◌, List, [], ◌∷◌, ◌++◌, codes, if◌then◌else◌, Option, Some, None, Result, Ok, Err}
use Rattle.std.specs.Option.{option_map_or}
use Rattle.formatx.specs.Fault.{Fault, missing, unsupported, trait_of, ◌>>=◌}
use Rattle.formatx.specs.Grammar.{Spells}
use Rattle.formatx.specs.Values.{Meaning}
use Rattle.formatx.specs.Field.{field_text}
use Rattle.formatx.specs.declared.error.Error.{Error}
use Rattle.formatx.specs.declared.error.Error.TheVariants.{NoMemory}
use Rattle.formatx.specs.declared.ast.Span.{Span}
use Rattle.formatx.specs.declared.ast.FormatType.{FormatType}
use Rattle.formatx.specs.declared.ast.Placeholder.{Placeholder}
use Rattle.formatx.specs.declared.ast.Segment.{Segment}
use Rattle.formatx.specs.declared.ast.Segment.TheVariants.{Literal as Plain, EscapedOpen, EscapedClose, Placeholder as Placed}
use Rattle.formatx.specs.Scene.{Scene, covered}
use Rattle.formatx.specs.Counts.{width_of, precision_of}
use Rattle.formatx.specs.Arguments.{value_at, argument_name, precision_takes, argument_takes}

-- only `{}`, `{:?}`, `{:x?}` and `{:X?}` are carried
abbrev pub supported : FormatType → Span → Result FormatType Fault
supported t s = option_map_or (λ _. Err (unsupported t s)) (trait_of t) (Ok t)

-- a value that is there: width, then type, then text
abbrev pub present_text : Scene → Placeholder → Option ℕ → Meaning → Result (List ℕ) Fault
present_text scene p precision m =
    width_of scene p.spec.width >>= λ width.
    supported p.spec.format_type p.span >>= λ _.
    Ok (field_text p.spec m width precision)

-- a value that may be missing
abbrev pub argument_text : Scene → ℕ → Placeholder → Option ℕ → Option Meaning → Result (List ℕ) Fault
argument_text scene next p precision value =
    option_map_or (present_text scene p precision) value (if scene.strict then Err (missing (argument_name scene.source next p.argument) p.span) else Ok [])

-- a placeholder: precision, argument, width, type, text, in this order
abbrev pub placeholder_text : Scene → ℕ → Placeholder → Result (List ℕ) Fault
placeholder_text scene next p =
    let own = next + precision_takes p.spec.precision in
    precision_of scene next p.spec.precision >>= λ precision. argument_text scene own p precision (value_at scene own p.argument)

-- a literal prints the part of the source that it covers, and an escape one brace
abbrev pub segment_text : Scene → ℕ → Segment → Result (List ℕ) Fault
segment_text scene next (Plain s) = Ok (covered scene.source s)
segment_text scene next EscapedOpen = Ok (codes "{")
segment_text scene next EscapedClose = Ok (codes "}")
segment_text scene next (Placed p) = placeholder_text scene next p

-- how many implicit positions a segment takes
abbrev pub segment_takes : Segment → ℕ
segment_takes (Placed p) = precision_takes p.spec.precision + argument_takes p.argument
segment_takes _ = 0

-- a text, and the fault that ended it, if there was one
pub record Outcome : Type 0 where
  pub text : List ℕ
  pub fault : Option Fault

-- the text of the segments before the first fault
abbrev pub continued : Result (List ℕ) Fault → Outcome → Outcome
continued (Ok text) rest = record { text = text ++ rest.text; fault = rest.fault }
continued (Err fault) rest = record { text = []; fault = Some fault }

-- the segments' texts in order, each from the implicit position that the segments before it leave
abbrev pub rendered : Scene → ℕ → List Segment → Outcome
rendered scene next [] = record { text = []; fault = None }
rendered scene next (s ∷ ss) = continued (segment_text scene next s) (rendered scene (next + segment_takes s) ss)

-- the whole text, or the first fault
abbrev pub whole : Outcome → Result (List ℕ) Fault
whole o = option_map_or (λ fault. Err fault) o.fault (Ok o.text)

-- a source prints this over a scene: what the segments that it spells print
abbrev pub Prints : Scene → Result (List ℕ) Fault → Type 0
Prints scene r = (segments : List Segment) × Spells scene.source segments × (whole (rendered scene 0 segments) ≡ r)

-- what an output holds after a refusal: the text before the fault, or where there was no memory a front of the text
abbrev pub Holds : Error → List ℕ → List ℕ → List ℕ → Type 0
Holds NoMemory old new text = (front : List ℕ) × (back : List ℕ) × (new ≡ old ++ front) × (text ≡ front ++ back)
Holds _ old new text = new ≡ old ++ text

-- a text was appended, which is what the definition gives
abbrev pub Appends : Result (List ℕ) Fault → List ℕ → List ℕ → Type 0
Appends r old new = (text : List ℕ) × (r ≡ Ok text) × (new ≡ old ++ text)

-- a text was appended, which is what the source prints over the scene
abbrev pub AppendsPrinted : Scene → List ℕ → List ℕ → Type 0
AppendsPrinted scene old new = (text : List ℕ) × Prints scene (Ok text) × (new ≡ old ++ text)
