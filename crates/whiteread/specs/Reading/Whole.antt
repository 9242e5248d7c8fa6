-- What reading a whole text answers, and what reading all words of a stream does.
use Rattle.std.specs.Prelude.{ℕ, List, [], ◌∷◌, ◌⊎◌, Some, None, Result, Ok, Err, IsTrue}
use Rattle.whiteread.specs.Words.{Words}
use Rattle.whiteread.specs.Stream.{Stream, NextCall}
use Rattle.whiteread.specs.Reading.{Reading, ReadCall}
use Rattle.whiteread.specs.declared.stream.error.Error.{Error}
use Rattle.whiteread.specs.declared.stream.error.Error.TheVariants.{TooShort, Leftovers, ParseError, IoError, NoMemory}

-- A whole text gives the value that takes all its words, or Leftovers where a value leaves a word, or TooShort or ParseError
-- where the words give them, or want of memory where the type takes some.
abbrev pub ReadsWhole : {T : Type 0} → Reading T → Words → Result T Error → Type 0
ReadsWhole reading words (Ok value) = reading.reads words (Ok value) []
ReadsWhole reading words (Err (TooShort progress)) = (rest : Words) × reading.reads words (Err (TooShort progress)) rest
ReadsWhole {T} reading words (Err Leftovers) = (value : T) × (word : List ℕ) × (more : Words) × reading.reads words (Ok value) (word ∷ more)
ReadsWhole reading words (Err ParseError) = (rest : Words) × reading.reads words (Err ParseError) rest
ReadsWhole reading words (Err (IoError fault)) = ⊥
ReadsWhole reading words (Err NoMemory) = IsTrue reading.allocates

-- A value was read, and the look for a word after it was refused.
abbrev pub LookRefused : {S T : Type 0} → Stream S → Reading T → S → Error → S → Type 0
LookRefused {S} {T} stream reading old why new = (value : T) × (mid : S) × ReadCall stream reading old (Ok value) mid × NextCall stream mid (Err why) new

-- A value is read, and then one call of `next` looks for a word: none is left where the answer is Ok, and one is where it is Leftovers.
abbrev pub WholeCall : {S T : Type 0} → Stream S → Reading T → S → Result T Error → S → Type 0
WholeCall {S} stream reading old (Ok value) new = (mid : S) × ReadCall stream reading old (Ok value) mid × NextCall stream mid (Ok None) new
WholeCall stream reading old (Err (TooShort progress)) new = ReadCall stream reading old (Err (TooShort progress)) new
WholeCall {S} {T} stream reading old (Err Leftovers) new = (value : T) × (mid : S) × (word : List ℕ) × ReadCall stream reading old (Ok value) mid × NextCall stream mid (Ok (Some word)) new
WholeCall stream reading old (Err ParseError) new = ReadCall stream reading old (Err ParseError) new
WholeCall {T = T} stream reading old (Err (IoError fault)) new = ReadCall stream reading old (Err (IoError fault)) new ⊎ LookRefused {T = T} stream reading old (IoError fault) new
WholeCall {T = T} stream reading old (Err NoMemory) new = ReadCall stream reading old (Err NoMemory) new ⊎ LookRefused {T = T} stream reading old NoMemory new
