-- What tuples read: their members in order.
use Rattle.std.specs.Prelude.{◌≡◌, ◌+◌, ◌⊎◌, ◌||◌, Ok, Err}
use Rattle.whiteread.specs.Words.{Words}
use Rattle.whiteread.specs.Reading.{Relation, Reading, some_calls}
use Rattle.whiteread.specs.declared.stream.error.Error.{Error}
use Rattle.whiteread.specs.declared.stream.error.Error.TheVariants.{TooShort, Leftovers, ParseError, IoError, NoMemory}
use Rattle.whiteread.specs.declared.stream.error.Progress.TheVariants.{Partial}

-- A value around another one is read as that one.
abbrev pub ReadsAround : {T W : Type 0} → (W → T) → Relation T → Relation W
ReadsAround inner reads words (Ok value) rest = reads words (Ok (inner value)) rest
ReadsAround inner reads words (Err why) rest = reads words (Err why) rest

-- What a type around another one reads: the same words.
abbrev pub around : {T W : Type 0} → (W → T) → Reading T → Reading W
around inner reading = record { reads = ReadsAround inner reading.reads; least = reading.least; ends = λ value. reading.ends (inner value); calls = reading.calls; allocates = reading.allocates }

-- A value that was begun finds too little only for its rest.
abbrev pub as_later : Error → Error
as_later (TooShort progress) = TooShort Partial
as_later Leftovers = Leftovers
as_later ParseError = ParseError
as_later (IoError fault) = IoError fault
as_later NoMemory = NoMemory

-- A later part of a value is read: its TooShort is Partial.
abbrev pub ReadsLater : {T : Type 0} → Relation T → Relation T
ReadsLater reads words (Ok value) rest = reads words (Ok value) rest
ReadsLater reads words (Err why) rest = (cause : Error) × reads words (Err cause) rest × (why ≡ as_later cause)

-- What a later part reads: the same, but for its TooShort.
abbrev pub later : {T : Type 0} → Reading T → Reading T
later reading = record reading { reads = ReadsLater reading.reads }

-- One part is read and then another.
abbrev pub ReadsThen : {A B C : Type 0} → (C → A) → (C → B) → Relation A → Relation B → Relation C
ReadsThen front last first second words (Ok value) rest = (mid : Words) × first words (Ok (front value)) mid × second mid (Ok (last value)) rest
ReadsThen {A} front last first second words (Err why) rest = first words (Err why) rest
    ⊎ ((value : A) × (mid : Words) × first words (Ok value) mid × second mid (Err why) rest)

-- What two parts read: the words of one and then those of the other.
abbrev pub then : {A B C : Type 0} → (C → A) → (C → B) → Reading A → Reading B → Reading C
then front last first second = record {
  reads = ReadsThen front last first.reads second.reads;
  least = first.least + second.least;
  ends = λ value. second.ends (last value);
  calls = some_calls;
  allocates = first.allocates || second.allocates;
}

-- What a tuple of two members reads: its members in order.
abbrev pub pair : {A B : Type 0} → Reading A → Reading B → Reading (A × B)
pair a b = then (λ all. all.0) (λ all. all.1) a (later b)

-- What a tuple of three members reads.
abbrev pub triple : {A B C : Type 0} → Reading A → Reading B → Reading C → Reading (A × B × C)
triple a b c = then (λ all. (all.0, all.1)) (λ all. all.2) (pair a b) (later c)

-- What a tuple of four members reads.
abbrev pub quadruple : {A B C D : Type 0} → Reading A → Reading B → Reading C → Reading D → Reading (A × B × C × D)
quadruple a b c d = then (λ all. (all.0, all.1, all.2)) (λ all. all.3) (triple a b c) (later d)

-- What a tuple of five members reads.
abbrev pub quintuple : {A B C D E : Type 0} → Reading A → Reading B → Reading C → Reading D → Reading E → Reading (A × B × C × D × E)
quintuple a b c d e = then (λ all. (all.0, all.1, all.2, all.3)) (λ all. all.4) (quadruple a b c d) (later e)

-- What a tuple of six members reads.
abbrev pub sextuple : {A B C D E F : Type 0} → Reading A → Reading B → Reading C → Reading D → Reading E → Reading F → Reading (A × B × C × D × E × F)
sextuple a b c d e f = then (λ all. (all.0, all.1, all.2, all.3, all.4)) (λ all. all.5) (quintuple a b c d e) (later f)
