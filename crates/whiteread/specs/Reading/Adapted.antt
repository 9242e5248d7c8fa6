-- What each adapter reads.
use Rattle.std.specs.Prelude.{◌≡◌, ℕ, ◌<◌, List, [], ◌∷◌, ◌⊎◌, length, drop, true, false, All, Ok, Err, IsOk, ⊤}
use Rattle.whiteread.specs.Words.{Words}
use Rattle.whiteread.specs.Reading.{Relation, Reading, one_call, some_calls}
use Rattle.whiteread.specs.Reading.Reads.{ReadsEach, unsigned}
use Rattle.whiteread.specs.Reading.Tuples.{ReadsLater}

-- What skipping a word reads: one word, if there is one, and no value is refused.
abbrev pub one_skipped : {T : Type 0} → Reading T
one_skipped = record { reads = λ words answer rest. IsOk answer × (rest ≡ drop 1 words); least = 0; ends = λ value. ⊥; calls = one_call; allocates = false }

-- What skipping all reads: every word that is left.
abbrev pub all_skipped : {T : Type 0} → Reading T
all_skipped = record { reads = λ words answer rest. IsOk answer × (rest ≡ []); least = 0; ends = λ value. ⊤; calls = some_calls; allocates = false }

-- So many values are read one after another, or fewer and then one is refused.
abbrev pub ReadsCount : {T W : Type 0} → (W → List T) → ℕ → Relation T → Relation W
ReadsCount items count reads words (Ok value) rest = (length (items value) ≡ count) × ReadsEach reads words (items value) rest
ReadsCount {T} items count reads words (Err why) rest = (values : List T) × (mid : Words) × (length values < count) × ReadsEach reads words values mid × reads mid (Err why) rest

-- A count is read, and then so many values, whose TooShort is Partial.
abbrev pub ReadsCounted : {T W : Type 0} → (W → List T) → Relation T → Relation W
ReadsCounted items reads words (Ok value) rest = (count : ℕ) × (mid : Words) × (unsigned 64).reads words (Ok count) mid × ReadsCount items count (ReadsLater reads) mid (Ok value) rest
ReadsCounted items reads words (Err why) rest = (unsigned 64).reads words (Err why) rest
    ⊎ ((count : ℕ) × (mid : Words) × (unsigned 64).reads words (Ok count) mid × ReadsCount items count (ReadsLater reads) mid (Err why) rest)

-- What a list with its length reads: a count, which takes a word, and then so many values.
abbrev pub counted : {T W : Type 0} → (W → List T) → Reading T → Reading W
counted items reading = record { reads = ReadsCounted items reading.reads; least = 1; ends = λ value. ⊥; calls = some_calls; allocates = true }

-- The value after these values is read: TooShort of a first value stays, and that of a later one is Partial.
abbrev pub reads_after : {T : Type 0} → List T → Relation T → Relation T
reads_after [] reads = reads
reads_after (value ∷ values) reads = ReadsLater reads

-- Values that are no zero are read up to the first zero, which is dropped.
abbrev pub ReadsToZero : {T W : Type 0} → (W → List T) → (T → Type 0) → Relation T → Relation W
ReadsToZero {T} items zero reads words (Ok value) rest = (mid : Words) × (last : T) × ReadsEach reads words (items value) mid
    × All (λ item. ¬ (zero item)) (items value) × reads mid (Ok last) rest × zero last
ReadsToZero {T} items zero reads words (Err why) rest = (values : List T) × (mid : Words) × ReadsEach reads words values mid
    × All (λ item. ¬ (zero item)) values × reads_after values reads mid (Err why) rest

-- What a list with a zero at its end reads: at least one value, and so at least the words of one.
abbrev pub to_zero : {T W : Type 0} → (W → List T) → (T → Type 0) → Reading T → Reading W
to_zero items zero reading = record { reads = ReadsToZero items zero reading.reads; least = reading.least; ends = λ value. ⊥; calls = some_calls; allocates = true }
