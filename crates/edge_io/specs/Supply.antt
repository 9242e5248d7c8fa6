-- What a source supplies.
pub mod Laws
use Rattle.std.specs.Prelude.{◌≡◌, ℕ, ◌+◌, List, [], ◌∷◌, length, ◌++◌, Option, Some}
use Rattle.std.specs.List.{concat}
use Rattle.std.specs.Io.KnownBytes.{Consumes}

-- This is what a source means.
pub record Supply (S : Type 0) : Type 0 where
  -- These bytes are still to come, where they are told.
  pub rest : S → Option (List ℕ)
  -- So many bytes were given.
  pub given : S → ℕ
  -- So often it has failed; the count stands still at the greatest u64.
  pub faults : S → ℕ
  -- It stands behind this borrow, where it is a `&mut`, so that who lent it knows where it is.
  pub reference : S → ℕ

-- Whoever holds a source has what it supplies, behind a reference of its own.
abbrev pub borrowed : {R S : Type 0} → (R → S) → (R → ℕ) → Supply S → Supply R
borrowed here name supply = record { rest = λ r. supply.rest (here r); given = λ r. supply.given (here r); faults = λ r. supply.faults (here r); reference = name }

-- Between these two states a source gave these bytes.
pub record Gave {S : Type 0} (supply : Supply S) (old new : S) (got : List ℕ) : Type 0 where
  pub bytes : Consumes (supply.rest old) (supply.rest new) got
  pub count : supply.given new ≡ supply.given old + length got

-- A source gave these pieces one after another.
abbrev pub GaveEach : {S : Type 0} → Supply S → S → List (List ℕ) → S → Type 0
GaveEach supply old [] new = new ≡ old
GaveEach {S} supply old (piece ∷ pieces) new = (mid : S) × Gave supply old mid piece × GaveEach supply mid pieces new

-- Over a whole job a source gives its pieces end to end, and one that tells its bytes loses just as many as it counts.
pub record AddsUp {S : Type 0} (supply : Supply S) : Type 0 where
  pub joined : (old new : S) (pieces : List (List ℕ)) → GaveEach supply old pieces new → Gave supply old new (concat pieces)
  pub lost : (old new : S) (bytes got : List ℕ) → supply.rest old ≡ Some bytes → Gave supply old new got
      → (left : List ℕ) × (supply.rest new ≡ Some left) × (bytes ≡ got ++ left) × (supply.given new + length left ≡ supply.given old + length bytes)
