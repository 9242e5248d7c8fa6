-- Parts of what is defined, which private calls answer.
use Rattle.std.specs.Prelude.{ℕ, List, [], ◌∷◌, ◌++◌, flat_map, drop, codes, Result, ok_or, Ok, Option, Some, if◌then◌else◌, MatchOption, ⊤}
use Rattle.std.specs.Char.{is_ascii_digit}
use Rattle.std.specs.Str.{byte}
use Rattle.formatx.specs.Fault.{Fault, unreadable, quoting, ◌>>=◌}
use Rattle.formatx.specs.Words.{begins, after, usize_of}
use Rattle.formatx.specs.Options.{Read, number_in}
use Rattle.formatx.specs.Spans.{SpanFits}
use Rattle.formatx.specs.Templates.{segment_names}
use Rattle.formatx.specs.Values.{escaped}
use Rattle.formatx.specs.declared.ast.Count.{Count}
use Rattle.formatx.specs.declared.ast.Count.TheVariants.{Literal, Param}
use Rattle.formatx.specs.declared.ast.CountParam.TheVariants.{Positional, Named}
use Rattle.formatx.specs.declared.ast.FormatSpec.{FormatSpec}
use Rattle.formatx.specs.declared.ast.Precision.{Precision}
use Rattle.formatx.specs.declared.ast.Precision.TheVariants.{Count as Counted, Star}
use Rattle.formatx.specs.declared.ast.FormatType.{FormatType}
use Rattle.formatx.specs.declared.ast.Segment.{Segment}

-- the number that a text writes, or the message with that text between the words
abbrev pub number_of : List ℕ → List ℕ → Result ℕ Fault
number_of words text = ok_or (usize_of text) (unreadable (record { start = 0; end = 0 }) (quoting words text ++ codes " is not a valid usize"))

-- digits, as a number or, with `$` after them, as a position
abbrev pub number_count_of : ℕ → List ℕ → Read (Option Count)
number_count_of size text =
    let rest = after is_ascii_digit text in
    if begins rest (byte "$")
    then (number_in size text (codes "invalid count parameter: ") >>= λ n. Ok (Some (Param (Positional n)), drop 1 rest))
    else (number_in size text (codes "invalid count: ") >>= λ n. Ok (Some (Literal n), rest))

-- what follows an `x` or an `X`: with `?` there it is a debug type
abbrev pub hex_of : List ℕ → FormatType → FormatType → FormatType × List ℕ
hex_of rest hex debug = if begins rest (byte "?") then (debug, drop 1 rest) else (hex, rest)

-- the span of a count's name fits the text
abbrev pub CountFits : List ℕ → Count → Type 0
CountFits source (Param (Named s)) = SpanFits source s
CountFits source _ = ⊤

-- the span of a precision's name fits the text
abbrev pub PrecisionFits : List ℕ → Precision → Type 0
PrecisionFits source (Counted c) = CountFits source c
PrecisionFits source Star = ⊤

-- the names in a specification fit the text
pub record SpecFits (source : List ℕ) (spec : FormatSpec) : Type 0 where
  pub width : MatchOption spec.width ⊤ (CountFits source)
  pub precision : MatchOption spec.precision ⊤ (PrecisionFits source)

-- characters between quotes, each escaped
abbrev pub quoted : ℕ → List ℕ → List ℕ
quoted quote cs = quote ∷ flat_map (escaped quote) cs ++ quote ∷ []

-- the names of the placeholders in order
abbrev pub names_in : List ℕ → List Segment → List (List ℕ)
names_in source segments = flat_map (segment_names source) segments
