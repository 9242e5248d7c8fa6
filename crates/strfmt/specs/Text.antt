-- What a text prints where its keys have meanings.
use Rattle.std.specs.Prelude.{◌≡◌, ◌++◌, ℕ, List, [], ◌∷◌, Option, Some, None, Result, Ok, Err}
use Rattle.numerals.specs.Answer.{IsAnswerBy}
use Rattle.strfmt.specs.declared.types.FmtError.{FmtError}
use Rattle.strfmt.specs.declared.types.FmtError.TheVariants.{NoMemory}
use Rattle.strfmt.specs.Fault.{fault_of, no_value, IsFault, Outcome}
use Rattle.strfmt.specs.Spec.{Spec, View}
use Rattle.strfmt.specs.Grammar.{Piece, ordinary, escape, pattern, Break, cause_of, IsCut}

-- A value prints a text, or is refused, under each specification.
abbrev pub Meaning : Type 0
Meaning = Spec → Outcome

-- A pattern is filled by the meaning of its key; there may be none.
abbrev pub filled_by : Option Meaning → View → Outcome
filled_by None view = Err (no_value view.key)
filled_by (Some meaning) view = meaning view.spec

-- One text after the other: an error in either is the whole answer, the left one's first.
abbrev pub then_next : {E : Type 0} → Result (List ℕ) E → Result (List ℕ) E → Result (List ℕ) E
then_next (Ok text) (Ok next) = Ok (text ++ next)
then_next (Ok text) (Err error) = Err error
then_next (Err error) next = Err error

-- The pieces print their texts one after the other, or the first fault from the left.
abbrev pub joined : (List ℕ → Option Meaning) → List Piece → Option Break → Outcome
joined meanings [] None = Ok []
joined meanings [] (Some break) = Err (fault_of (cause_of break))
joined meanings (ordinary b ∷ pieces) stop = then_next (Ok (b ∷ [])) (joined meanings pieces stop)
joined meanings (escape b ∷ pieces) stop = then_next (Ok (b ∷ [])) (joined meanings pieces stop)
joined meanings (pattern view ∷ pieces) stop = then_next (filled_by (meanings view.key) view) (joined meanings pieces stop)

-- The text prints this, or is refused so, under a partial map from the texts of keys to meanings.
abbrev pub Prints : (List ℕ → Option Meaning) → List ℕ → Outcome → Type 0
Prints meanings text outcome = (pieces : List Piece) × (stop : Option Break) × IsCut pieces stop text × (outcome ≡ joined meanings pieces stop)

-- A call prints the text; or its fault, or want of memory, is the answer. `bytes` are those of a text in memory.
abbrev pub IsPrinted : {S : Type 0} → (S → List ℕ) → (List ℕ → Option Meaning) → List ℕ → Result S FmtError → Type 0
IsPrinted bytes meanings text result = (outcome : Outcome) × Prints meanings text outcome × IsAnswerBy bytes IsFault NoMemory outcome result
