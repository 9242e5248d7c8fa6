-- Proofs of the laws of streams and readings, which the impls cite.
use Rattle.std.proofs.Common.{◌≡◌, ◌<◌, ℕ, List, [], ◌∷◌, ◌++◌, length, drop, Some, None, Result, Ok, Err, sym, ◌∙◌, ap, inl, inr, arith, append_assoc, length-append}
use Rattle.whiteread.specs.Words.{Words}
use Rattle.whiteread.specs.Stream.{Answer, IsStream, told_stream}
use Rattle.whiteread.specs.Reading.{Reading, IsReading}
use Rattle.whiteread.specs.Reading.Reads.{one_word, nothing, optional, ReadsEach, all_values}
use Rattle.whiteread.specs.Reading.Tuples.{around, later, then, pair, triple, quadruple, quintuple, sextuple}
use Rattle.whiteread.specs.Reading.Adapted.{one_skipped, all_skipped, ReadsCount, counted, reads_after, to_zero}
use Rattle.std.specs.Str.Parse.{ParsesUnsigned}
use Rattle.whiteread.specs.declared.stream.error.Error.{Error}

pub told_is_stream : {S : Type 0} (left : S → Words) (step : S → Answer → S → Type 0) → IsStream (told_stream left step)
told_is_stream left step = record {
  within = λ s words told. let e : left s ≡ words = cc in omega (arith, ap (λ (w : Words). length w) e);
  none_at_end = λ s words end told. let e : left s ≡ words = cc in sym e ∙ end;
}

-- two takings, one after the other
front_join : (words front mid next rest : Words) → words ≡ front ++ mid → mid ≡ next ++ rest → words ≡ (front ++ next) ++ rest
front_join words front mid next rest p q = p ∙ ap (λ m. front ++ m) q ∙ sym (append_assoc front next rest)

pub word_front : {T : Type 0} (rule : List ℕ → Result T Error → Type 0) → IsReading (one_word rule)
word_front rule [] (Ok value) rest read = absurd (let e = read.0 in cc)
word_front rule [] (Err why) rest read = ([], sym read.1, tt)
word_front rule (word ∷ words) (Ok value) rest read = (word ∷ [], ap (λ w. word ∷ w) (sym read.2), omega arith)
word_front rule (word ∷ words) (Err why) rest read = (word ∷ [], ap (λ w. word ∷ w) (sym read.2), tt)

pub nothing_front : IsReading nothing
nothing_front words (Ok value) rest read = ([], sym read.1, omega arith)
nothing_front words (Err why) rest read = ([], sym read.1, tt)

pub then_front : {A B C : Type 0} (front : C → A) (last : C → B) (first : Reading A) (second : Reading B) → IsReading first → IsReading second → IsReading (then front last first second)
then_front front last first second p q words (Ok value) rest read =
    let one = p words (Ok (front value)) read.0 read.1 in
    let two = q read.0 (Ok (last value)) rest read.2 in
    (one.0 ++ two.0, front_join words one.0 read.0 two.0 rest one.1 two.1, omega (arith, length-append one.0 two.0, one.2, two.2))
then_front front last first second p q words (Err why) rest (inl read) = let one = p words (Err why) rest read in (one.0, one.1, tt)
then_front front last first second p q words (Err why) rest (inr read) =
    let one = p words (Ok read.0) read.1 read.2 in
    let two = q read.1 (Err why) rest read.3 in
    (one.0 ++ two.0, front_join words one.0 read.1 two.0 rest one.1 two.1, tt)

pub later_front : {T : Type 0} (reading : Reading T) → IsReading reading → IsReading (later reading)
later_front reading p words (Ok value) rest read = p words (Ok value) rest read
later_front reading p words (Err why) rest read = p words (Err read.0) rest read.1

pub pair_front : {A B : Type 0} (a : Reading A) (b : Reading B) → IsReading a → IsReading b → IsReading (pair a b)
pair_front a b p q = then_front (λ all. all.0) (λ all. all.1) a (later b) p (later_front b q)

pub triple_front : {A B C : Type 0} (a : Reading A) (b : Reading B) (c : Reading C) → IsReading a → IsReading b → IsReading c → IsReading (triple a b c)
triple_front a b c p q r = then_front (λ all. (all.0, all.1)) (λ all. all.2) (pair a b) (later c) (pair_front a b p q) (later_front c r)

pub quadruple_front : {A B C D : Type 0} (a : Reading A) (b : Reading B) (c : Reading C) (d : Reading D) → IsReading a → IsReading b → IsReading c → IsReading d → IsReading (quadruple a b c d)
quadruple_front a b c d p q r s = then_front (λ all. (all.0, all.1, all.2)) (λ all. all.3) (triple a b c) (later d) (triple_front a b c p q r) (later_front d s)

pub quintuple_front : {A B C D E : Type 0} (a : Reading A) (b : Reading B) (c : Reading C) (d : Reading D) (e : Reading E)
    → IsReading a → IsReading b → IsReading c → IsReading d → IsReading e → IsReading (quintuple a b c d e)
quintuple_front a b c d e p q r s t = then_front (λ all. (all.0, all.1, all.2, all.3)) (λ all. all.4) (quadruple a b c d) (later e) (quadruple_front a b c d p q r s) (later_front e t)

pub sextuple_front : {A B C D E F : Type 0} (a : Reading A) (b : Reading B) (c : Reading C) (d : Reading D) (e : Reading E) (f : Reading F)
    → IsReading a → IsReading b → IsReading c → IsReading d → IsReading e → IsReading f → IsReading (sextuple a b c d e f)
sextuple_front a b c d e f p q r s t u = then_front (λ all. (all.0, all.1, all.2, all.3, all.4)) (λ all. all.5) (quintuple a b c d e) (later f) (quintuple_front a b c d e p q r s t) (later_front f u)

pub around_front : {T W : Type 0} (inner : W → T) (reading : Reading T) → IsReading reading → IsReading (around inner reading)
around_front inner reading p words (Ok value) rest read = p words (Ok (inner value)) rest read
around_front inner reading p words (Err why) rest read = p words (Err why) rest read

pub optional_front : {T : Type 0} (reading : Reading T) → IsReading reading → IsReading (optional reading)
optional_front reading p words (Ok None) rest read = let one = p words _ rest read in (one.0, one.1, omega arith)
optional_front reading p words (Ok (Some value)) rest read = let one = p words (Ok value) rest read in (one.0, one.1, omega arith)
optional_front reading p words (Err why) rest read = p words (Err why) rest read.1

-- values one after another take words from the front
pub each_front : {T : Type 0} (reading : Reading T) → IsReading reading → (words : Words) (values : List T) (rest : Words) → ReadsEach reading.reads words values rest → (front : Words) × (words ≡ front ++ rest)
each_front reading p words [] rest read = ([], sym read)
each_front reading p words (value ∷ values) rest read =
    let one = p words (Ok value) read.0 read.1 in
    let more = each_front reading p read.0 values rest read.2 in
    (one.0 ++ more.0, front_join words one.0 read.0 more.0 rest one.1 more.1)

pub all_front : {T : Type 0} (reading : Reading T) → IsReading reading → IsReading (all_values reading)
all_front reading p words (Ok values) rest read =
    let each = each_front reading p words values.items read.0 read.1 in
    let last = p read.0 _ rest read.2 in
    (each.0 ++ last.0, front_join words each.0 read.0 last.0 rest each.1 last.1, omega arith)
all_front reading p words (Err why) rest read =
    let each = each_front reading p words read.1.0 read.1.1 read.1.2 in
    let last = p read.1.1 (Err why) rest read.1.3 in
    (each.0 ++ last.0, front_join words each.0 read.1.1 last.0 rest each.1 last.1, tt)

skip_split : (words rest : Words) → rest ≡ drop 1 words → (front : Words) × (words ≡ front ++ rest)
skip_split [] rest e = ([], sym e)
skip_split (word ∷ words) rest e = (word ∷ [], ap (λ w. word ∷ w) (sym e))

pub one_skipped_front : {T : Type 0} → IsReading (one_skipped {T = T})
one_skipped_front words (Ok value) rest read = let one = skip_split words rest read.1 in (one.0, one.1, omega arith)
one_skipped_front words (Err why) rest read = let one = skip_split words rest read.1 in (one.0, one.1, tt)

whole : (words rest : Words) → rest ≡ [] → words ≡ words ++ rest
whole [] rest e = sym e
whole (word ∷ words) rest e = ap (λ w. word ∷ w) (whole words rest e)

pub all_skipped_front : {T : Type 0} → IsReading (all_skipped {T = T})
all_skipped_front words (Ok value) rest read = (words, whole words rest read.1, omega arith)
all_skipped_front words (Err why) rest read = (words, whole words rest read.1, tt)

count_front : {T W : Type 0} (items : W → List T) (count : ℕ) (reading : Reading T) → IsReading reading → (words : Words) (answer : Result W Error) (rest : Words)
    → ReadsCount items count reading.reads words answer rest → (front : Words) × (words ≡ front ++ rest)
count_front items count reading p words (Ok value) rest read = each_front reading p words (items value) rest read.1
count_front items count reading p words (Err why) rest read =
    let each = each_front reading p words read.0 read.1 read.3 in
    let last = p read.1 (Err why) rest read.4 in
    (each.0 ++ last.0, front_join words each.0 read.1 last.0 rest each.1 last.1)

pub counted_front : {T W : Type 0} (items : W → List T) (reading : Reading T) → IsReading reading → IsReading (counted items reading)
counted_front items reading p words (Ok value) rest read =
    let count = word_front (ParsesUnsigned 64 10) words (Ok read.0) read.1 read.2 in
    let values = count_front items read.0 (later reading) (later_front reading p) read.1 (Ok value) rest read.3 in
    (count.0 ++ values.0, front_join words count.0 read.1 values.0 rest count.1 values.1, omega (arith, length-append count.0 values.0, count.2))
counted_front items reading p words (Err why) rest (inl read) = let one = word_front (ParsesUnsigned 64 10) words (Err why) rest read in (one.0, one.1, tt)
counted_front items reading p words (Err why) rest (inr read) =
    let count = word_front (ParsesUnsigned 64 10) words (Ok read.0) read.1 read.2 in
    let values = count_front items read.0 (later reading) (later_front reading p) read.1 (Err why) rest read.3 in
    (count.0 ++ values.0, front_join words count.0 read.1 values.0 rest count.1 values.1, tt)

after_front : {T : Type 0} (values : List T) (reading : Reading T) → IsReading reading → (words : Words) (why : Error) (rest : Words)
    → reads_after values reading.reads words (Err why) rest → (front : Words) × (words ≡ front ++ rest)
after_front [] reading p words why rest read = let one = p words (Err why) rest read in (one.0, one.1)
after_front (value ∷ values) reading p words why rest read = let one = p words (Err read.0) rest read.1 in (one.0, one.1)

pub to_zero_front : {T W : Type 0} (items : W → List T) (zero : T → Type 0) (reading : Reading T) → IsReading reading → IsReading (to_zero items zero reading)
to_zero_front items zero reading p words (Ok value) rest read =
    let each = each_front reading p words (items value) read.0 read.2 in
    let last = p read.0 (Ok read.1) rest read.4 in
    (each.0 ++ last.0, front_join words each.0 read.0 last.0 rest each.1 last.1, omega (arith, length-append each.0 last.0, last.2))
to_zero_front items zero reading p words (Err why) rest read =
    let each = each_front reading p words read.0 read.1 read.2 in
    let last = after_front read.0 reading p read.1 why rest read.4 in
    (each.0 ++ last.0, front_join words each.0 read.1 last.0 rest each.1 last.1, tt)

-- what reads one word takes one
pub eats_word : 0 < 1
eats_word = omega arith

-- a tuple takes no fewer words than its first member
pub eats_pair : {A B : Type 0} (a : Reading A) (b : Reading B) → 0 < a.least → 0 < (pair a b).least
eats_pair a b some = omega arith

pub eats_triple : {A B C : Type 0} (a : Reading A) (b : Reading B) (c : Reading C) → 0 < a.least → 0 < (triple a b c).least
eats_triple a b c some = omega arith

pub eats_quadruple : {A B C D : Type 0} (a : Reading A) (b : Reading B) (c : Reading C) (d : Reading D) → 0 < a.least → 0 < (quadruple a b c d).least
eats_quadruple a b c d some = omega arith

pub eats_quintuple : {A B C D E : Type 0} (a : Reading A) (b : Reading B) (c : Reading C) (d : Reading D) (e : Reading E) → 0 < a.least → 0 < (quintuple a b c d e).least
eats_quintuple a b c d e some = omega arith

pub eats_sextuple : {A B C D E F : Type 0} (a : Reading A) (b : Reading B) (c : Reading C) (d : Reading D) (e : Reading E) (f : Reading F) → 0 < a.least → 0 < (sextuple a b c d e f).least
eats_sextuple a b c d e f some = omega arith
