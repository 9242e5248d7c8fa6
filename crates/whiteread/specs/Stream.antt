-- What a stream of words means, and what a call of its `next` does.
use Rattle.std.specs.Prelude.{◌≡◌, ◌≢◌, ℕ, ◌<◌, ◌≤◌, List, [], ◌∷◌, length, Bool, false, IsTrue, Option, Some, None, Result, Ok, Err, IfErr, ⊤}
use denote.Ref.{Bor}
use Rattle.edge_io.specs.Ends.{Rises}
use Rattle.whiteread.specs.Words.{Words}
use Rattle.whiteread.specs.declared.stream.error.Error.{Error}
use Rattle.whiteread.specs.declared.stream.error.Error.TheVariants.{TooShort, Leftovers, ParseError, IoError, NoMemory}
use Rattle.whiteread.specs.declared.stream.error.IoFault.{IoFault}

-- An answer of `next` holds the lent word as its bytes.
abbrev pub Answer : Type 0
Answer = Result (Option (List ℕ)) Error

-- A lent word is read as the bytes that it points to.
abbrev pub answer_of : Result (Option (Bor (List ℕ))) Error → Answer
answer_of (Ok None) = Ok None
answer_of (Ok (Some word)) = Ok (Some word.now)
answer_of (Err why) = Err why

-- This is what a stream means.
pub record Stream (S : Type 0) : Type 1 where
  -- These are the words that it can still give, where they are told.
  pub left : S → Option Words
  -- These words never pass this number.
  pub bound : S → ℕ
  -- No word is left, and none comes any more.
  pub at_end : S → Type 0
  -- A call of `next` relates the stream before it, its answer, and the stream after it.
  pub step : S → Answer → S → Type 0
  -- Each fault was met so often.
  pub faults : S → IoFault → ℕ
  -- A call of `next` may want memory, or never does.
  pub allocates : Bool

-- Told words are no more than the bound, and a stream at its end has none.
pub record IsStream {S : Type 0} (stream : Stream S) : Type 0 where
  pub within : (s : S) (words : Words) → stream.left s ≡ Some words → length words ≤ stream.bound s
  pub none_at_end : (s : S) (words : Words) → stream.at_end s → stream.left s ≡ Some words → words ≡ []

-- Such a stream tells its words, meets no fault and takes no memory.
abbrev pub told_stream : {S : Type 0} → (S → Words) → (S → Answer → S → Type 0) → Stream S
told_stream left step = record {
  left = λ s. Some (left s);
  bound = λ s. length (left s);
  at_end = λ s. left s ≡ [];
  step = step;
  faults = λ s fault. 0;
  allocates = false;
}

-- Where words are told, a word that is lent is the first of them, and None comes only where there is none.
abbrev pub TakesFirst : Option Words → Answer → Option Words → Type 0
TakesFirst None answer new = ⊤
TakesFirst (Some words) (Ok (Some word)) new = (rest : Words) × (words ≡ word ∷ rest) × (new ≡ Some rest)
TakesFirst (Some words) (Ok None) new = (words ≡ []) × (new ≡ Some [])
TakesFirst (Some words) (Err why) new = ⊤

-- A word that is lent lowers the bound, and nothing raises it.
abbrev pub LowersAtWord : ℕ → Answer → ℕ → Type 0
LowersAtWord old (Ok (Some word)) new = new < old
LowersAtWord old (Ok None) new = new ≤ old
LowersAtWord old (Err why) new = new ≤ old

-- None comes only at the end.
abbrev pub EndsAtNone : Answer → Type 0 → Type 0
EndsAtNone (Ok (Some word)) at_end = ⊤
EndsAtNone (Ok None) at_end = at_end
EndsAtNone (Err why) at_end = ⊤

-- The count of this fault rose, and each other count is as before.
pub record OneRises (fault : IoFault) (old new : IoFault → ℕ) : Type 0 where
  pub rose : Rises (old fault) (new fault)
  pub others : (other : IoFault) → other ≢ fault → new other ≡ old other

-- A call refuses by IoError, where the count of that fault rose, or by NoMemory; each other count is as before.
abbrev pub CountsNext : {T : Type 0} → (IoFault → ℕ) → Result T Error → (IoFault → ℕ) → Type 0
CountsNext old (Ok found) new = new ≡ old
CountsNext old (Err (TooShort progress)) new = ⊥
CountsNext old (Err Leftovers) new = ⊥
CountsNext old (Err ParseError) new = ⊥
CountsNext old (Err (IoError fault)) new = OneRises fault old new
CountsNext old (Err NoMemory) new = new ≡ old

-- A call of `next` does this.
pub record NextCall {S : Type 0} (stream : Stream S) (old : S) (answer : Answer) (new : S) : Type 0 where
  pub words : TakesFirst (stream.left old) answer (stream.left new)
  pub bound : LowersAtWord (stream.bound old) answer (stream.bound new)
  pub end : EndsAtNone answer (stream.at_end new)
  pub counts : CountsNext (stream.faults old) answer (stream.faults new)
  pub step : stream.step old answer new
  pub memory : IfErr answer (λ why. why ≡ NoMemory → IsTrue stream.allocates)
