-- Calls of `read`, one after another.
use Rattle.std.proofs.Common.{◌≡◌, ◌≤◌, ◌+◌, ℕ, Bool, true, false, ◌||◌, IsTrue, List, [], ◌∷◌, ◌++◌, Option, Some, None, Result, Ok, Err, refl, sym, ◌∙◌, ap, subst, inl, inr, arith}
use Rattle.whiteread.specs.Words.{Words}
use Rattle.whiteread.specs.Stream.{Stream, Answer}
use Rattle.whiteread.specs.Reading.{Relation, Reading, ReadCall, ReadsTold, CountsRead, StepsBy, Calls, no_call, one_call, some_calls, Reached}
use Rattle.whiteread.specs.Reading.Reads.{ReadsOption, optional, ReadsEach}
use Rattle.std.specs.List.{All}
use Rattle.whiteread.specs.Reading.Tuples.{ReadsThen, then, ReadsLater, later}
use Rattle.whiteread.specs.Reading.Adapted.{reads_after, ReadsToZero, to_zero}
use Rattle.whiteread.specs.Reading.Reach.{reached_none, reached_then, reached_read, reached_reads}
use Rattle.whiteread.specs.declared.stream.error.Error.{Error}
use Rattle.whiteread.specs.declared.stream.error.Error.TheVariants.{TooShort, Leftovers, ParseError, IoError, NoMemory}
use Rattle.whiteread.specs.declared.stream.error.Progress.TheVariants.{Nothing}
use Rattle.whiteread.specs.declared.stream.error.IoFault.{IoFault}

abbrev Counts : Type 0
Counts = IoFault → ℕ

-- what the words say from a place that is known
pub told_at : {T : Type 0} (reads : Relation T) (mid : Option Words) (words : Words) (answer : Result T Error) (new : Option Words) → mid ≡ Some words → ReadsTold reads mid answer new → ReadsTold reads (Some words) answer new
told_at reads mid words answer new is told = subst (λ (o : Option Words). ReadsTold reads o answer new) is told

-- want of memory says nothing of the words
pub told_no_memory : {T : Type 0} (reads : Relation T) (start new : Option Words) → ReadsTold reads start (Err NoMemory) new
told_no_memory reads None new = tt
told_no_memory reads (Some words) new = tt

-- a refusal by one reading after others is a refusal of the whole
pub told_refusal : {T U : Type 0} (reads : Relation T) (whole : Relation U) (mid words : Words) (why : Error) (new : Option Words)
    → ((rest : Words) → reads mid (Err why) rest → whole words (Err why) rest) → ReadsTold reads (Some mid) (Err why) new → ReadsTold whole (Some words) (Err why) new
told_refusal reads whole mid words (TooShort progress) new gives told = (told.0, told.1, gives told.0 told.2)
told_refusal reads whole mid words Leftovers new gives told = told
told_refusal reads whole mid words ParseError new gives told = (told.0, told.1, gives told.0 told.2)
told_refusal reads whole mid words (IoError fault) new gives told = tt
told_refusal reads whole mid words NoMemory new gives told = tt

told_none : {T : Type 0} (reads : Relation T) (answer : Result T Error) (new : Option Words) → ReadsTold reads None answer new
told_none reads answer new = tt

-- what else a refusal says is the same at each type
pub counts_refusal : (T U : Type 0) (old : Counts) (why : Error) (new : Counts) → CountsRead {T = T} old (Err why) new → CountsRead {T = U} old (Err why) new
counts_refusal T U old (TooShort progress) new counts = counts
counts_refusal T U old Leftovers new counts = counts
counts_refusal T U old ParseError new counts = counts
counts_refusal T U old (IoError fault) new counts = counts
counts_refusal T U old NoMemory new counts = counts

-- memory is wanted by one or by the other
pub wanted_first : (first second stream : Bool) → IsTrue (first || stream) → IsTrue ((first || second) || stream)
wanted_first true second stream wants = refl
wanted_first false true stream wants = refl
wanted_first false false stream wants = wants

pub wanted_second : (first second stream : Bool) → IsTrue (second || stream) → IsTrue ((first || second) || stream)
wanted_second true second stream wants = refl
wanted_second false second stream wants = wants

-- counts that stood still before are counts from the start
pub counts_from : {T : Type 0} (old mid : Counts) (answer : Result T Error) (new : Counts) → mid ≡ old → CountsRead mid answer new → CountsRead old answer new
counts_from old mid answer new is counts = subst (λ (c : Counts). CountsRead c answer new) is counts

pub counts_no_memory : (T : Type 0) (old new : Counts) → new ≡ old → CountsRead {T = T} old (Err NoMemory) new
counts_no_memory T old new is fault = let e : new fault ≡ old fault = ap (λ (c : Counts). c fault) is in omega (arith, e)

-- ---- one part and then another

told_then : {A B C : Type 0} (front : C → A) (last : C → B) (first : Relation A) (second : Relation B) (start mid : Option Words) (value : A) (why : Error) (new : Option Words)
    → ReadsTold first start (Ok value) mid → ReadsTold second mid (Err why) new → ReadsTold (ReadsThen front last first second) start (Err why) new
told_then front last first second None mid value why new one two = told_none (ReadsThen front last first second) (Err why) new
told_then front last first second (Some words) mid value why new one two =
    told_refusal second (ReadsThen front last first second) one.0 words why new (λ rest read. inr (value, one.0, one.2, read)) (told_at second mid one.0 (Err why) new one.1 two)

-- the last part is refused
pub then_refused : {S A B C : Type 0} (stream : Stream S) (front : C → A) (last : C → B) (first : Reading A) (second : Reading B) (old mid new : S) (value : A) (why : Error)
    → ReadCall stream first old (Ok value) mid → ReadCall stream second mid (Err why) new → ReadCall stream (then front last first second) old (Err why) new
then_refused {S} {A} {B} {C} stream front last first second old mid new value why one two = record {
  words = told_then front last first.reads second.reads (stream.left old) (stream.left mid) value why (stream.left new) one.words two.words;
  bound = omega (arith, one.bound, two.bound);
  short = two.short;
  ends = tt;
  counts = counts_refusal B C (stream.faults old) why (stream.faults new) (counts_from {T = B} (stream.faults old) (stream.faults mid) (Err why) (stream.faults new) one.counts two.counts);
  step = reached_reads stream first second old (Ok value) mid (Err why) new one two;
  memory = λ is. wanted_second first.allocates second.allocates stream.allocates (two.memory is);
}

told_refused_first : {A B C : Type 0} (front : C → A) (last : C → B) (first : Relation A) (second : Relation B) (start : Option Words) (why : Error) (new : Option Words)
    → ReadsTold first start (Err why) new → ReadsTold (ReadsThen front last first second) start (Err why) new
told_refused_first front last first second None why new one = told_none (ReadsThen front last first second) (Err why) new
told_refused_first front last first second (Some words) why new one = told_refusal first (ReadsThen front last first second) words words why new (λ rest read. inl read) one

-- the front is refused
pub then_refused_first : {S A B C : Type 0} (stream : Stream S) (front : C → A) (last : C → B) (first : Reading A) (second : Reading B) (old new : S) (why : Error)
    → ReadCall stream first old (Err why) new → ReadCall stream (then front last first second) old (Err why) new
then_refused_first {S} {A} {B} {C} stream front last first second old new why one = record {
  words = told_refused_first front last first.reads second.reads (stream.left old) why (stream.left new) one.words;
  bound = one.bound;
  short = one.short;
  ends = tt;
  counts = counts_refusal A C (stream.faults old) why (stream.faults new) one.counts;
  step = reached_read stream first old (Err why) new one;
  memory = λ is. wanted_first first.allocates second.allocates stream.allocates (one.memory is);
}

told_both : {A B C : Type 0} (front : C → A) (last : C → B) (first : Relation A) (second : Relation B) (start mid : Option Words) (value : C) (new : Option Words)
    → ReadsTold first start (Ok (front value)) mid → ReadsTold second mid (Ok (last value)) new → ReadsTold (ReadsThen front last first second) start (Ok value) new
told_both front last first second None mid value new one two = tt
told_both front last first second (Some words) mid value new one two =
    let two = told_at second mid one.0 (Ok (last value)) new one.1 two in
    (two.0, two.1, (one.0, one.2, two.2))

-- all members are read
pub then_read : {S A B C : Type 0} (stream : Stream S) (front : C → A) (last : C → B) (first : Reading A) (second : Reading B) (old mid new : S) (value : C)
    → ReadCall stream first old (Ok (front value)) mid → ReadCall stream second mid (Ok (last value)) new → ReadCall stream (then front last first second) old (Ok value) new
then_read stream front last first second old mid new value one two = record {
  words = told_both front last first.reads second.reads (stream.left old) (stream.left mid) value (stream.left new) one.words two.words;
  bound = omega (arith, one.bound, two.bound);
  short = tt;
  ends = two.ends;
  counts = two.counts ∙ one.counts;
  step = reached_reads stream first second old (Ok (front value)) mid (Ok (last value)) new one two;
  memory = tt;
}

-- ---- values one after another

abbrev pub EachTold : {T : Type 0} → Relation T → Option Words → List T → Option Words → Type 0
EachTold reads None values new = Unit {0}
EachTold reads (Some words) values new = (rest : Words) × (new ≡ Some rest) × ReadsEach reads words values rest

-- these values were read one after another
pub record EachCall {S T : Type 0} (stream : Stream S) (reading : Reading T) (old : S) (values : List T) (new : S) : Type 0 where
  pub words : EachTold reading.reads (stream.left old) values (stream.left new)
  pub bound : stream.bound new ≤ stream.bound old
  pub counts : stream.faults new ≡ stream.faults old
  pub reached : Reached stream.step old new

each_told_none : {T : Type 0} (reads : Relation T) (start : Option Words) → EachTold reads start [] start
each_told_none reads None = tt
each_told_none reads (Some words) = (words, refl, refl)

pub each_none : {S T : Type 0} (stream : Stream S) (reading : Reading T) (old : S) → EachCall stream reading old [] old
each_none stream reading old = record { words = each_told_none reading.reads (stream.left old); bound = omega arith; counts = refl; reached = reached_none stream.step old old refl }

reads_more : {T : Type 0} (reads : Relation T) (words mid rest : Words) (values : List T) (value : T)
    → ReadsEach reads words values mid → reads mid (Ok value) rest → ReadsEach reads words (values ++ value ∷ []) rest
reads_more reads words mid rest [] value each one = (rest, subst (λ (w : Words). reads w (Ok value) rest) each one, refl)
reads_more reads words mid rest (v ∷ values) value each one = (each.0, each.1, reads_more reads each.0 mid rest values value each.2 one)

each_told_more : {T : Type 0} (reads : Relation T) (start mid new : Option Words) (values : List T) (value : T)
    → EachTold reads start values mid → ReadsTold reads mid (Ok value) new → EachTold reads start (values ++ value ∷ []) new
each_told_more reads None mid new values value each one = tt
each_told_more reads (Some words) mid new values value each one =
    let one = told_at reads mid each.0 (Ok value) new each.1 one in
    (one.0, one.1, reads_more reads words each.0 one.0 values value each.2 one.2)

pub each_more : {S T : Type 0} (stream : Stream S) (reading : Reading T) (old mid new : S) (values : List T) (value : T)
    → EachCall stream reading old values mid → ReadCall stream reading mid (Ok value) new → EachCall stream reading old (values ++ value ∷ []) new
each_more stream reading old mid new values value each one = record {
  words = each_told_more reading.reads (stream.left old) (stream.left mid) (stream.left new) values value each.words one.words;
  bound = omega (arith, each.bound, one.bound);
  counts = one.counts ∙ each.counts;
  reached = reached_then stream.step old mid new each.reached (reached_read stream reading mid (Ok value) new one);
}

told_nothing : {T : Type 0} (reads : Relation T) (start new : Option Words) → ReadsTold reads start (Err (TooShort Nothing)) new → ReadsTold (ReadsOption reads) start (Ok None) new
told_nothing reads None new told = tt
told_nothing reads (Some words) new told = told

none_step : {S : Type 0} (T : Type 0) (calls : Calls) (step : S → Answer → S → Type 0) (old new : S) → StepsBy {T = T} calls step old (Err (TooShort Nothing)) new → StepsBy {T = Option T} calls step old (Ok None) new
none_step T no_call step old new by = by
none_step T one_call step old new by = (by.0, by.1, tt)
none_step T some_calls step old new by = by

-- nothing of an optional value
pub none_read : {S T : Type 0} (stream : Stream S) (reading : Reading T) (old new : S)
    → ReadCall stream reading old (Err (TooShort Nothing)) new → ReadCall stream (optional reading) old (Ok None) new
none_read {S} {T} stream reading old new one = record {
  words = told_nothing reading.reads (stream.left old) (stream.left new) one.words;
  bound = omega (arith, one.bound);
  short = tt;
  ends = λ _. one.short Nothing refl;
  counts = one.counts;
  step = none_step T reading.calls stream.step old new one.step;
  memory = tt;
}

-- values up to the last, and the last by itself
reads_split : {T : Type 0} (reads : Relation T) (words rest : Words) (values : List T) (last : T)
    → ReadsEach reads words (values ++ last ∷ []) rest → (mid : Words) × ReadsEach reads words values mid × reads mid (Ok last) rest
reads_split reads words rest [] last each = (words, refl, subst (reads words (Ok last)) (sym each.2) each.1)
reads_split reads words rest (value ∷ values) last each =
    let more = reads_split reads each.0 rest values last each.2 in
    (more.0, (each.0, each.1, more.1), more.2)

told_to_zero : {T W : Type 0} (items : W → List T) (zero : T → Type 0) (reads : Relation T) (start new : Option Words) (value : W) (last : T)
    → All (λ item. ¬ (zero item)) (items value) → zero last → EachTold reads start (items value ++ last ∷ []) new → ReadsTold (ReadsToZero items zero reads) start (Ok value) new
told_to_zero items zero reads None new value last some is each = tt
told_to_zero items zero reads (Some words) new value last some is each =
    let split = reads_split reads words each.0 (items value) last each.2 in
    (each.0, each.1, (split.0, last, split.1, some, split.2, is))

-- the last value is the first zero
pub to_zero_read : {S T W : Type 0} (stream : Stream S) (items : W → List T) (zero : T → Type 0) (reading : Reading T) (old new : S) (value : W) (last : T)
    → All (λ item. ¬ (zero item)) (items value) → zero last → EachCall stream reading old (items value ++ last ∷ []) new → stream.bound new + reading.least ≤ stream.bound old
    → ReadCall stream (to_zero items zero reading) old (Ok value) new
to_zero_read stream items zero reading old new value last some is each least = record {
  words = told_to_zero items zero reading.reads (stream.left old) (stream.left new) value last some is each.words;
  bound = least;
  short = tt;
  ends = λ never. absurd never;
  counts = each.counts;
  step = each.reached;
  memory = tt;
}

told_value : {T : Type 0} (reads : Relation T) (start new : Option Words) (value : T) → ReadsTold (ReadsLater reads) start (Ok value) new → ReadsTold reads start (Ok value) new
told_value reads None new value told = tt
told_value reads (Some words) new value told = told

-- a later value is a value
pub later_value : {S T : Type 0} (stream : Stream S) (reading : Reading T) (old new : S) (value : T) → ReadCall stream (later reading) old (Ok value) new → ReadCall stream reading old (Ok value) new
later_value {S} {T} stream reading old new value one = record {
  words = told_value reading.reads (stream.left old) (stream.left new) value one.words;
  bound = one.bound;
  short = tt;
  ends = one.ends;
  counts = one.counts;
  step = one.step;
  memory = tt;
}

-- values one after another, and then another reading
pub reached_each : {S T U : Type 0} (stream : Stream S) (reading : Reading T) (next : Reading U) (old mid new : S) (values : List T) (answer : Result U Error)
    → EachCall stream reading old values mid → ReadCall stream next mid answer new → Reached stream.step old new
reached_each stream reading next old mid new values answer each one = reached_then stream.step old mid new each.reached (reached_read stream next mid answer new one)

after_some : {T : Type 0} (values : List T) (value : T) (reads : Relation T) (words : Words) (why : Error) (rest : Words)
    → ReadsLater reads words (Err why) rest → reads_after (values ++ value ∷ []) reads words (Err why) rest
after_some [] value reads words why rest read = read
after_some (v ∷ values) value reads words why rest read = read

told_zero_refused : {T W : Type 0} (items : W → List T) (zero : T → Type 0) (reads : Relation T) (start mid : Option Words) (values : List T) (value : T) (why : Error) (new : Option Words)
    → All (λ item. ¬ (zero item)) (values ++ value ∷ []) → EachTold reads start (values ++ value ∷ []) mid → ReadsTold (ReadsLater reads) mid (Err why) new
    → ReadsTold (ReadsToZero items zero reads) start (Err why) new
told_zero_refused items zero reads None mid values value why new some each one = told_none (ReadsToZero items zero reads) (Err why) new
told_zero_refused items zero reads (Some words) mid values value why new some each one =
    told_refusal (ReadsLater reads) (ReadsToZero items zero reads) each.0 words why new
    (λ rest read. (values ++ value ∷ [], each.0, each.2, some, after_some values value reads each.0 why rest read))
    (told_at (ReadsLater reads) mid each.0 (Err why) new each.1 one)

-- values that are no zero, and then a refusal
pub to_zero_refused : {S T W : Type 0} (stream : Stream S) (items : W → List T) (zero : T → Type 0) (reading : Reading T) (old mid new : S) (values : List T) (value : T) (why : Error)
    → All (λ item. ¬ (zero item)) (values ++ value ∷ []) → EachCall stream reading old (values ++ value ∷ []) mid → ReadCall stream (later reading) mid (Err why) new
    → ReadCall {T = W} stream (to_zero items zero reading) old (Err why) new
to_zero_refused {S} {T} {W} stream items zero reading old mid new values value why some each one = record {
  words = told_zero_refused items zero reading.reads (stream.left old) (stream.left mid) values value why (stream.left new) some each.words one.words;
  bound = omega (arith, each.bound, one.bound);
  short = one.short;
  ends = tt;
  counts = counts_refusal T W (stream.faults old) why (stream.faults new) (counts_from {T = T} (stream.faults old) (stream.faults mid) (Err why) (stream.faults new) each.counts one.counts);
  step = reached_each stream reading (later reading) old mid new (values ++ value ∷ []) (Err why) each one;
  memory = λ _. refl;
}
