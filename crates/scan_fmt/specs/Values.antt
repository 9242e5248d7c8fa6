-- What the text of a token reads as.
use Rattle.std.specs.Prelude.{ℕ, List, Option, Result}
use Rattle.std.specs.Option.{ok_or}

-- what `parse` reads, where an error is none
abbrev pub ReadsBy : {T : Type 0} → (List ℕ → Result T (Unit {0}) → Type 0) → List ℕ → Option T → Type 0
ReadsBy parses text value = parses text (ok_or value tt)
