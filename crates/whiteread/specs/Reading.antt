-- What reading a type means, and what a call of its `read` does to a stream.
pub mod Reads
pub mod Tuples
pub mod Adapted
pub mod Whole
pub mod Laws
pub mod Reach
use Rattle.std.specs.Prelude.{◌≡◌, ℕ, ◌+◌, ◌≤◌, List, [], ◌∷◌, ◌++◌, length, Bool, IsTrue, ◌||◌, Option, Some, None, Result, Ok, Err, IfOk, IfErr, ⊤}
use Rattle.whiteread.specs.Words.{Words}
use Rattle.whiteread.specs.Stream.{Stream, Answer, OneRises}
use Rattle.whiteread.specs.declared.stream.error.Error.{Error}
use Rattle.whiteread.specs.declared.stream.error.Error.TheVariants.{TooShort, Leftovers, ParseError, IoError, NoMemory}
use Rattle.whiteread.specs.declared.stream.error.IoFault.{IoFault}
use Rattle.whiteread.specs.declared.stream.error.Progress.{Progress}

-- A reading relates a list of words, the answer that it gives, and the words left after it.
abbrev pub Relation : Type 0 → Type 1
Relation T = Words → Result T Error → Words → Type 0

-- A reading calls `next` never, or exactly once, or any number of times.
pub data Calls : Type 0 where
  no_call : Calls
  one_call : Calls
  some_calls : Calls

-- This is what reading a type means.
pub record Reading (T : Type 0) : Type 1 where
  -- It reads by this relation.
  pub reads : Relation T
  -- An Ok takes at least so many words.
  pub least : ℕ
  -- An Ok with such a value leaves the stream at its end.
  pub ends : T → Type 0
  -- It calls `next` so often.
  pub calls : Calls
  -- It may want memory of its own, or never does.
  pub allocates : Bool

-- A front of the words was taken, and by an Ok at least so many.
abbrev pub TakesFront : {T : Type 0} → ℕ → Words → Result T Error → Words → Type 0
TakesFront least words answer rest = (front : Words) × (words ≡ front ++ rest) × IfOk answer (λ value. least ≤ length front)

-- Whatever it answers, a reading takes words from the front, and an Ok its least number.
abbrev pub IsReading : {T : Type 0} → Reading T → Type 0
IsReading {T} reading = (words : Words) (answer : Result T Error) (rest : Words) → reading.reads words answer rest → TakesFront reading.least words answer rest

-- Where words are told, each answer but IoError and NoMemory is by the relation.
abbrev pub ReadsTold : {T : Type 0} → Relation T → Option Words → Result T Error → Option Words → Type 0
ReadsTold reads None answer new = ⊤
ReadsTold reads (Some words) (Ok value) new = (rest : Words) × (new ≡ Some rest) × reads words (Ok value) rest
ReadsTold reads (Some words) (Err (TooShort progress)) new = (rest : Words) × (new ≡ Some rest) × reads words (Err (TooShort progress)) rest
ReadsTold reads (Some words) (Err Leftovers) new = ⊥
ReadsTold reads (Some words) (Err ParseError) new = (rest : Words) × (new ≡ Some rest) × reads words (Err ParseError) rest
ReadsTold reads (Some words) (Err (IoError fault)) new = ⊤
ReadsTold reads (Some words) (Err NoMemory) new = ⊤

-- Nothing raises the bound, and an Ok lowers it by the least number of words.
abbrev pub LowersBy : {T : Type 0} → ℕ → ℕ → Result T Error → ℕ → Type 0
LowersBy least old (Ok value) new = new + least ≤ old
LowersBy least old (Err why) new = new ≤ old

-- `read` never answers Leftovers; where it answers IoError, the count of that fault rose and no other; no count falls,
-- and only where memory is wanting may more have been met.
abbrev pub CountsRead : {T : Type 0} → (IoFault → ℕ) → Result T Error → (IoFault → ℕ) → Type 0
CountsRead old (Ok value) new = new ≡ old
CountsRead old (Err (TooShort progress)) new = new ≡ old
CountsRead old (Err Leftovers) new = ⊥
CountsRead old (Err ParseError) new = new ≡ old
CountsRead old (Err (IoError fault)) new = OneRises fault old new
CountsRead old (Err NoMemory) new = (fault : IoFault) → old fault ≤ new fault

-- The one call of `next` gave a word where `read` answers ParseError, and None where it answers TooShort.
abbrev pub TellsFound : {T : Type 0} → Result T Error → Answer → Type 0
TellsFound answer found =
    IfErr answer (λ why. (why ≡ ParseError → (word : List ℕ) × (found ≡ Ok (Some word))) × ((progress : Progress) → why ≡ TooShort progress → found ≡ Ok None))

-- Each of these streams comes from the one before it by a call of `next`, and the last of them is this one.
abbrev pub Reaches : {S : Type 0} → (S → Answer → S → Type 0) → S → List S → S → Type 0
Reaches step old [] new = new ≡ old
Reaches step old (next ∷ more) new = ((answer : Answer) × step old answer next) × Reaches step next more new

-- Calls of `next` alone lead from one stream to the other.
pub record Reached {S : Type 0} (step : S → Answer → S → Type 0) (old new : S) : Type 0 where
  pub streams : List S
  pub steps : Reaches step old streams new

-- Where `next` isn't called the stream is unchanged, where it is called once that call is a step of the stream,
-- and else such calls alone lead to the new stream.
abbrev pub StepsBy : {S T : Type 0} → Calls → (S → Answer → S → Type 0) → S → Result T Error → S → Type 0
StepsBy no_call step old answer new = new ≡ old
StepsBy one_call step old answer new = (found : Answer) × step old found new × TellsFound answer found
StepsBy some_calls step old answer new = Reached step old new

-- A call of `read` does this to a stream.
pub record ReadCall {S T : Type 0} (stream : Stream S) (reading : Reading T) (old : S) (answer : Result T Error) (new : S) : Type 0 where
  pub words : ReadsTold reading.reads (stream.left old) answer (stream.left new)
  pub bound : LowersBy reading.least (stream.bound old) answer (stream.bound new)
  pub short : IfErr answer (λ why. (progress : Progress) → why ≡ TooShort progress → stream.at_end new)
  pub ends : IfOk answer (λ value. reading.ends value → stream.at_end new)
  pub counts : CountsRead (stream.faults old) answer (stream.faults new)
  pub step : StepsBy reading.calls stream.step old answer new
  pub memory : IfErr answer (λ why. why ≡ NoMemory → IsTrue (reading.allocates || stream.allocates))
