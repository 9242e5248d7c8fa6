-- What a pattern says: its key and its specification, or its first fault.
use Rattle.std.specs.Prelude.{◌≡◌, ℕ, List, [], ◌∷◌, Bool, true, false, Option, Some, None, Result, Ok, Err, if◌then◌else◌, ◌==◌, ◌&&◌, not, nat_lt, is_none, unwrap_or, length, codes, slice_get}
use Rattle.std.specs.List.{before_first, after_first, list_any}
use Rattle.std.specs.Str.{byte}
use Rattle.strfmt.specs.declared.types.Alignment.TheVariants.{Unspecified, Equal}
use Rattle.strfmt.specs.declared.types.Sign.TheVariants.{Unspecified as NoSign}
use Rattle.strfmt.specs.declared.cause.Cause.{Cause}
use Rattle.strfmt.specs.declared.cause.Cause.TheVariants.{NoKey, GreatWidth, GreatPrecision, NoPrecision, LongType, BadType, BadComma}
use Rattle.numerals.specs.Answer.{IsAnswerBy}
use Rattle.strfmt.specs.declared.types.FmtError.{FmtError}
use Rattle.strfmt.specs.declared.types.FmtError.TheVariants.{NoMemory}
use Rattle.strfmt.specs.Fault.{Check, first_failure, fault_of, IsFault}
use Rattle.strfmt.specs.Spec.{Spec, View}
use Rattle.strfmt.specs.Grammar.Parts.{Parts, IsWritten}

-- A width or a precision may be at most 2 ^ 63 - 1.
abbrev pub is_too_large : Option ℕ → Bool
is_too_large None = false
is_too_large (Some n) = nat_lt 9223372036854775807 n

-- What is left after the parts is at most one byte, a type that is known; a comma doesn't go with each.
abbrev pub type_checks : Bool → List ℕ → List Check
type_checks thousands [] = []
type_checks thousands (c ∷ []) =
    record { fails = not (list_any (λ t. t == c) (codes "boxXeEfF%s?")); cause = BadType c }
    ∷ record { fails = thousands && list_any (λ t. t == c) (codes "boxXs?"); cause = BadComma c }
    ∷ []
type_checks thousands (c ∷ d ∷ left) = record { fails = true; cause = LongType } ∷ []

-- These checks are made for a specification, in this order.
abbrev pub checks_of : Parts → List Check
checks_of parts =
    record { fails = is_too_large parts.width; cause = GreatWidth }
    ∷ record { fails = parts.dot && is_none parts.precision; cause = NoPrecision }
    ∷ record { fails = is_too_large parts.precision; cause = GreatPrecision }
    ∷ type_checks parts.thousands parts.left

-- A zero sets the fill and the alignment, else the fill is a space; the byte that is left is the type.
abbrev pub spec_of : Parts → Spec
spec_of parts = record {
  fill = if parts.zero then byte "0" else unwrap_or parts.fill (byte " ");
  align = if parts.zero then Equal else unwrap_or parts.align Unspecified;
  sign = unwrap_or parts.sign NoSign;
  alternate = parts.alternate;
  width = parts.width;
  thousands = parts.thousands;
  precision = parts.precision;
  ty = slice_get parts.left 0;
}

-- The key is what stands before the first `:`, or all.
abbrev pub key_of : List ℕ → List ℕ
key_of pattern = before_first (λ b. b == byte ":") pattern

-- The specification is what stands after the first `:`, or nothing.
abbrev pub specification_of : List ℕ → List ℕ
specification_of pattern = after_first (λ b. b == byte ":") pattern

-- There must be a key, before the specification is looked at.
abbrev pub first_cause : List ℕ → Parts → Option Cause
first_cause key parts = if length key == 0 then Some NoKey else first_failure (checks_of parts)

-- A formatter without text, or the cause of a refusal.
abbrev pub read_as : List ℕ → Spec → Option Cause → Result View Cause
read_as pattern spec None = Ok (record { key = key_of pattern; pattern = pattern; spec = spec; text = [] })
read_as pattern spec (Some cause) = Err cause

-- The pattern reads as this formatter, or is refused for this cause.
abbrev pub IsRead : List ℕ → Result View Cause → Type 0
IsRead pattern read = (parts : Parts) × IsWritten (specification_of pattern) parts × (read ≡ read_as pattern (spec_of parts) (first_cause (key_of pattern) parts))

-- A call reads the pattern; or the cause's fault, or want of memory, is the answer.
abbrev pub Reads : List ℕ → Result View FmtError → Type 0
Reads pattern result = (read : Result View Cause) × IsRead pattern read × IsAnswerBy (λ (view : View). view) (λ error cause. IsFault error (fault_of cause)) NoMemory read result
