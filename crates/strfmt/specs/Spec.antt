-- What callers see of a formatter.
use Rattle.std.specs.Prelude.{◌≡◌, ◌++◌, ℕ, List, Option, Some, None, Bool, true, false, ◌==◌, Ok, Err, Result, IsOkAnd}
use Rattle.std.specs.List.{list_any}
use Rattle.numerals.specs.Answer.{IsAnswerBy}
use Rattle.strfmt.specs.declared.types.Alignment.{Alignment}
use Rattle.strfmt.specs.declared.types.Alignment.TheVariants.{Unspecified}
use Rattle.strfmt.specs.declared.types.Sign.{Sign}
use Rattle.strfmt.specs.declared.types.Sign.TheVariants.{Unspecified as NoSign, Plus, Minus}
use Rattle.strfmt.specs.declared.types.FmtError.{FmtError}
use Rattle.strfmt.specs.declared.types.FmtError.TheVariants.{NoMemory}
use Rattle.strfmt.specs.Fault.{IsFault, Outcome}

-- A specification: the fill and the type are characters, the width and the precision count characters.
pub record Spec : Type 0 where
  pub fill : ℕ
  pub align : Alignment
  pub sign : Sign
  pub alternate : Bool
  pub width : Option ℕ
  pub thousands : Bool
  pub precision : Option ℕ
  pub ty : Option ℕ

-- A formatter: a pattern with its key and its specification, and the text that was written so far.
pub record View : Type 0 where
  pub key : List ℕ
  pub pattern : List ℕ
  pub spec : Spec
  pub text : List ℕ

-- The second alignment stands in for the first where that is unspecified.
abbrev pub align_or : Alignment → Alignment → Alignment
align_or Unspecified default = default
align_or align default = align

-- The specification with a default alignment.
abbrev pub aligned : Alignment → Spec → Spec
aligned default spec = record spec { align = align_or spec.align default }

-- The formatter with a default alignment.
abbrev pub view_aligned : Alignment → View → View
view_aligned default view = record view { spec = aligned default view.spec }

-- A call appends this: the text is at the formatter's end; or the fault, or want of memory, is the answer, and the formatter is as before.
abbrev pub Appends : Outcome → View → Result (Unit {0}) FmtError → View → Type 0
Appends outcome old (Ok done) new = IsOkAnd outcome (λ text. new ≡ record old { text = old.text ++ text })
Appends outcome old (Err error) new = IsAnswerBy (λ (text : List ℕ). text) IsFault NoMemory outcome (Err error) × (new ≡ old)

-- The sign is a plus.
abbrev pub is_plus : Sign → Bool
is_plus Plus = true
is_plus sign = false

-- The sign is a minus.
abbrev pub is_minus : Sign → Bool
is_minus Minus = true
is_minus sign = false

-- No sign is given.
abbrev pub is_unspecified : Sign → Bool
is_unspecified NoSign = true
is_unspecified sign = false

-- There is no type, or it is one of these.
abbrev pub is_none_or_in : List ℕ → Option ℕ → Bool
is_none_or_in types None = true
is_none_or_in types (Some c) = list_any (λ t. t == c) types
