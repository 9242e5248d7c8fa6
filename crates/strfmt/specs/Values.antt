-- The values of a map as the meanings of keys.
use Rattle.std.specs.Prelude.{◌≡◌, ◌++◌, ℕ, List, Bool, Option, Result, Ok, Err, IsOkAnd, option_map}
use Rattle.std.specs.HashMap.{HashMap, get_by}
use Rattle.numerals.specs.Answer.{IsAnswerBy}
use Rattle.strfmt.specs.declared.types.FmtError.{FmtError}
use Rattle.strfmt.specs.declared.types.FmtError.TheVariants.{NoMemory}
use Rattle.strfmt.specs.Fault.{IsFault, Outcome}
use Rattle.strfmt.specs.Spec.{View}
use Rattle.strfmt.specs.Text.{Meaning}

-- A call displays this: its text is added; or its fault, or want of memory, is the answer, and nothing is said of the formatter.
abbrev pub Displays : Outcome → View → Result (Unit {0}) FmtError → View → Type 0
Displays outcome old (Ok done) new = IsOkAnd outcome (λ text. new.text ≡ old.text ++ text)
Displays outcome old (Err error) new = IsAnswerBy (λ (text : List ℕ). text) IsFault NoMemory outcome (Err error)

-- A key's text means what the map's value means at the key that it spells, if there is one.
abbrev pub values : {K D S : Type 0} → (List ℕ → K → Bool) → (D → Meaning) → HashMap K D S → List ℕ → Option Meaning
values spells meaning vars key = option_map meaning (get_by (spells key) vars)
