-- The calls of a closure at the patterns of a text.
use Rattle.std.specs.Prelude.{◌≡◌, ℕ, List, [], ◌∷◌, Option, Some, None, Result, Ok, Err, IsErrAnd}
use Rattle.std.specs.Borrow.{MutBor}
use Rattle.std.specs.Fn.{Mut, CalledAtMut}
use Rattle.strfmt.specs.declared.types.FmtError.{FmtError}
use Rattle.strfmt.specs.Fault.{fault_of, IsFault}
use Rattle.strfmt.specs.Spec.{View}
use Rattle.strfmt.specs.Text.{then_next}
use Rattle.strfmt.specs.Grammar.{Piece, ordinary, escape, pattern, Break, cause_of, IsCut}

-- A walk answers a text, or an error.
abbrev pub Walked : Type 0
Walked = Result (List ℕ) FmtError

module _ {F : Type 0} (g : Mut F (MutBor View × Unit {0}) (Result (Unit {0}) FmtError × (MutBor View × Unit {0}))) where
  -- After a call's error the walk has that error, and ends; after its Ok comes the text that the formatter holds, and the walk goes on.
  abbrev pub GoesOn : Result (Unit {0}) FmtError → View → F → (F → Walked → F → Type 0) → Walked → F → Type 0
  GoesOn (Err error) left f rest answer last = (answer ≡ Err error) × (last ≡ f)
  GoesOn (Ok done) left f rest answer last = (more : Walked) × rest f more last × (answer ≡ then_next (Ok left.text) more)

  -- Over the pieces from left to right, the closure f is called once at each pattern, up to the first refusal; it is then the closure `last`.
  abbrev pub Walks : F → List Piece → Option Break → Walked → F → Type 0
  Walks f [] None answer last = (answer ≡ Ok []) × (last ≡ f)
  Walks f [] (Some break) answer last = IsErrAnd answer (λ error. IsFault error (fault_of (cause_of break))) × (last ≡ f)
  Walks f (ordinary b ∷ pieces) stop answer last = (more : Walked) × Walks f pieces stop more last × (answer ≡ then_next (Ok (b ∷ [])) more)
  Walks f (escape b ∷ pieces) stop answer last = (more : Walked) × Walks f pieces stop more last × (answer ≡ then_next (Ok (b ∷ [])) more)
  Walks f (pattern view ∷ pieces) stop answer last =
      (given : Result (Unit {0}) FmtError) × (left : View) × (f' : F) × CalledAtMut g f (record view { text = [] }) given f' left × GoesOn given left f' (λ f'. Walks f' pieces stop) answer last

  -- The same over a text.
  abbrev pub IsWalk : F → List ℕ → Walked → F → Type 0
  IsWalk f text answer last = (pieces : List Piece) × (stop : Option Break) × IsCut pieces stop text × Walks f pieces stop answer last
