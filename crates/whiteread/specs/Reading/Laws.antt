-- Laws of readings that no call carries.
use Rattle.std.specs.Prelude.{◌≡◌, ◌<◌, ◌↔◌, ℕ, Bool, List, length, Option, None, Result, Ok, Err}
use Rattle.whiteread.specs.Words.{Words, AreLongestRuns}
use Rattle.whiteread.specs.Reading.{Relation}
use Rattle.whiteread.specs.declared.stream.error.Error.{Error}
use Rattle.whiteread.specs.declared.stream.error.Error.TheVariants.{TooShort}
use Rattle.whiteread.specs.declared.stream.error.Progress.TheVariants.{Nothing}

-- These are the longest runs, and no other list is.
pub record IsOnlyRuns (blank : ℕ → Bool) (xs : List ℕ) (all : Words) : Type 0 where
  pub are : AreLongestRuns blank xs all
  pub only : (other : Words) → AreLongestRuns blank xs other → other ≡ all

-- The optional value is None exactly where the value answers TooShort(Nothing).
abbrev pub NoneAtNothing : {T : Type 0} → Relation T → Relation (Option T) → Type 0
NoneAtNothing value optional = (words rest : Words) → optional words (Ok None) rest ↔ value words (Err (TooShort Nothing)) rest

-- Each Ok takes at least one word.
abbrev pub TakesAWord : {T : Type 0} → Relation T → Type 0
TakesAWord {T} reads = (words : Words) (value : T) (rest : Words) → reads words (Ok value) rest → length rest < length words

-- Some words have one answer at most.
abbrev pub HasOneAnswer : {T : Type 0} → Relation T → Type 0
HasOneAnswer {T} reads = (words : Words) (one other : Result T Error) (rest left : Words) → reads words one rest → reads words other left → one ≡ other
