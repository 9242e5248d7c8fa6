-- Proofs that the reading of a list gives one answer, which the impls cite.
use Rattle.std.proofs.Common.{◌≡◌, ◌<◌, ℕ, List, [], ◌∷◌, length, Result, Ok, Err, sym, ◌∙◌, subst, arith, inl, inr}
use Rattle.std.proofs.lemmas.Bool.{false≢true}
use Rattle.whiteread.specs.Words.{Words}
use Rattle.whiteread.specs.Reading.{Reading, Relation}
use Rattle.whiteread.specs.Reading.Reads.{ReadsEach, all_values}
use Rattle.whiteread.specs.Reading.Tuples.{ReadsLater}
use Rattle.whiteread.specs.Reading.Adapted.{one_skipped, all_skipped, ReadsCount, counted}
use Rattle.whiteread.specs.declared.stream.error.Error.{Error}
use Rattle.reader_laws.specs.Alike.{Likeness, GivesOne, single, each_alike, inside_alike}
use Rattle.reader_laws.specs.AlikeProofs.{moved, later_one, unsigned_one}

-- ---- values, and what ends them

pub each_moved : {T : Type 0} (reads : Relation T) (mid next : Words) (values : List T) (rest : Words) → mid ≡ next → ReadsEach reads next values rest → ReadsEach reads mid values rest
each_moved reads mid next values rest is each = subst (λ (words : Words). ReadsEach reads words values rest) (sym is) each

-- the same words give values that are alike, up to a refusal, which is the same
pub each_stopped : {T : Type 0} (alike : Likeness T) (reads : Relation T) → GivesOne alike reads → (words : Words) (ones others : List T) (mid next : Words) (why cause : Error) (rest left : Words)
    → ReadsEach reads words ones mid → ReadsEach reads words others next → reads mid (Err why) rest → reads next (Err cause) left → each_alike alike ones others × (why ≡ cause) × (rest ≡ left)
each_stopped alike reads p words [] [] mid next why cause rest left a b c d =
    let x = p mid (Err why) (Err cause) rest left c (moved reads mid next (Err cause) left (a ∙ sym b) d) in (tt, x.0, x.1)
each_stopped alike reads p words [] (other ∷ others) mid next why cause rest left a b c d =
    absurd (p words (Err why) (Ok other) rest b.0 (moved reads words mid (Err why) rest (sym a) c) b.1).0
each_stopped alike reads p words (one ∷ ones) [] mid next why cause rest left a b c d =
    absurd (p words (Ok one) (Err cause) a.0 left a.1 (moved reads words next (Err cause) left (sym b) d)).0
each_stopped alike reads p words (one ∷ ones) (other ∷ others) mid next why cause rest left a b c d =
    let x = p words (Ok one) (Ok other) a.0 b.0 a.1 b.1 in
    let y = each_stopped alike reads p a.0 ones others mid next why cause rest left a.2 (each_moved reads a.0 b.0 others next x.1 b.2) c d in
    ((x.0, y.0), y.1, y.2)

pub all_one : {T : Type 0} (alike : Likeness T) (reading : Reading T) → GivesOne alike reading.reads → GivesOne (inside_alike (λ values. values.items) (each_alike alike)) (all_values reading).reads
all_one alike reading p words (Ok ones) (Ok others) rest left a b =
    let x = each_stopped alike reading.reads p words ones.items others.items a.0 b.0 _ _ rest left a.1 b.1 a.2 b.2 in (x.0, x.2)
all_one alike reading p words (Ok ones) (Err why) rest left a b =
    absurd (b.0 (sym (each_stopped alike reading.reads p words ones.items b.1.0 a.0 b.1.1 _ why rest left a.1 b.1.2 a.2 b.1.3).1))
all_one alike reading p words (Err why) (Ok others) rest left a b =
    absurd (a.0 (each_stopped alike reading.reads p words a.1.0 others.items a.1.1 b.0 why _ rest left a.1.2 b.1 a.1.3 b.2).1)
all_one alike reading p words (Err why) (Err cause) rest left a b =
    let x = each_stopped alike reading.reads p words a.1.0 b.1.0 a.1.1 b.1.1 why cause rest left a.1.2 b.1.2 a.1.3 b.1.3 in (x.1, x.2)

-- ---- so many values

-- the same words give values that are alike, where there are as many
each_counted : {T : Type 0} (alike : Likeness T) (reads : Relation T) → GivesOne alike reads → (words : Words) (ones others : List T) (mid next : Words) → length ones ≡ length others
    → ReadsEach reads words ones mid → ReadsEach reads words others next → each_alike alike ones others × (mid ≡ next)
each_counted alike reads p words [] [] mid next many a b = (tt, a ∙ sym b)
each_counted alike reads p words [] (other ∷ others) mid next many a b = absurd (omega (arith, many))
each_counted alike reads p words (one ∷ ones) [] mid next many a b = absurd (omega (arith, many))
each_counted alike reads p words (one ∷ ones) (other ∷ others) mid next many a b =
    let x = p words (Ok one) (Ok other) a.0 b.0 a.1 b.1 in
    let y = each_counted alike reads p a.0 ones others mid next (omega (arith, many)) a.2 (each_moved reads a.0 b.0 others next x.1 b.2) in
    ((x.0, y.0), y.1)

-- words that give so many values give no refusal after fewer
each_short : {T : Type 0} (alike : Likeness T) (reads : Relation T) → GivesOne alike reads → (words : Words) (ones others : List T) (mid next : Words) (cause : Error) (left : Words)
    → length others < length ones → ReadsEach reads words ones mid → ReadsEach reads words others next → reads next (Err cause) left → ⊥
each_short alike reads p words [] others mid next cause left few a b d = omega (arith, few)
each_short alike reads p words (one ∷ ones) [] mid next cause left few a b d = (p words (Ok one) (Err cause) a.0 left a.1 (moved reads words next (Err cause) left (sym b) d)).0
each_short alike reads p words (one ∷ ones) (other ∷ others) mid next cause left few a b d =
    let x = p words (Ok one) (Ok other) a.0 b.0 a.1 b.1 in
    each_short alike reads p a.0 ones others mid next cause left (omega (arith, few)) a.2 (each_moved reads a.0 b.0 others next x.1 b.2) d

count_one : {T W : Type 0} (items : W → List T) (alike : Likeness T) (reads : Relation T) (count : ℕ) → GivesOne alike reads
    → GivesOne (inside_alike items (each_alike alike)) (ReadsCount items count reads)
count_one items alike reads count p words (Ok one) (Ok other) rest left a b = each_counted alike reads p words (items one) (items other) rest left (a.0 ∙ sym b.0) a.1 b.1
count_one items alike reads count p words (Ok one) (Err why) rest left a b =
    absurd (each_short alike reads p words (items one) b.0 rest b.1 why left (omega (arith, a.0, b.2)) a.1 b.3 b.4)
count_one items alike reads count p words (Err why) (Ok other) rest left a b =
    absurd (each_short alike reads p words (items other) a.0 left a.1 why rest (omega (arith, b.0, a.2)) b.1 a.3 a.4)
count_one items alike reads count p words (Err why) (Err cause) rest left a b =
    let x = each_stopped alike reads p words a.0 b.0 a.1 b.1 why cause rest left a.3 b.3 a.4 b.4 in (x.1, x.2)

count_moved : {T W : Type 0} (items : W → List T) (reads : Relation T) (count number : ℕ) (mid next : Words) (answer : Result W Error) (rest : Words) → count ≡ number → mid ≡ next
    → ReadsCount items number reads next answer rest → ReadsCount items count reads mid answer rest
count_moved items reads count number mid next answer rest same is read =
    subst (λ (n : ℕ). ReadsCount items n reads mid answer rest) (sym same) (moved (ReadsCount items number reads) mid next answer rest is read)

pub counted_one : {T W : Type 0} (items : W → List T) (alike : Likeness T) (reading : Reading T) → GivesOne alike reading.reads
    → GivesOne (inside_alike items (each_alike alike)) (counted items reading).reads
counted_one items alike reading p words (Ok one) (Ok other) rest left a b =
    let x = unsigned_one 64 words (Ok a.0) (Ok b.0) a.1 b.1 a.2 b.2 in
    let later = ReadsLater reading.reads in
    count_one items alike later a.0 (later_one alike reading p) a.1 (Ok one) (Ok other) rest left a.3 (count_moved items later a.0 b.0 a.1 b.1 (Ok other) left x.0 x.1 b.3)
counted_one items alike reading p words (Ok one) (Err why) rest left a (inl b) = absurd (unsigned_one 64 words (Ok a.0) (Err why) a.1 left a.2 b).0
counted_one items alike reading p words (Ok one) (Err why) rest left a (inr b) =
    let x = unsigned_one 64 words (Ok a.0) (Ok b.0) a.1 b.1 a.2 b.2 in
    let later = ReadsLater reading.reads in
    count_one items alike later a.0 (later_one alike reading p) a.1 (Ok one) (Err why) rest left a.3 (count_moved items later a.0 b.0 a.1 b.1 (Err why) left x.0 x.1 b.3)
counted_one items alike reading p words (Err why) (Ok other) rest left (inl a) b = absurd (unsigned_one 64 words (Err why) (Ok b.0) rest b.1 a b.2).0
counted_one items alike reading p words (Err why) (Ok other) rest left (inr a) b =
    let x = unsigned_one 64 words (Ok a.0) (Ok b.0) a.1 b.1 a.2 b.2 in
    let later = ReadsLater reading.reads in
    count_one items alike later a.0 (later_one alike reading p) a.1 (Err why) (Ok other) rest left a.3 (count_moved items later a.0 b.0 a.1 b.1 (Ok other) left x.0 x.1 b.3)
counted_one items alike reading p words (Err why) (Err cause) rest left (inl a) (inl b) = unsigned_one 64 words (Err why) (Err cause) rest left a b
counted_one items alike reading p words (Err why) (Err cause) rest left (inl a) (inr b) = absurd (unsigned_one 64 words (Err why) (Ok b.0) rest b.1 a b.2).0
counted_one items alike reading p words (Err why) (Err cause) rest left (inr a) (inl b) = absurd (unsigned_one 64 words (Ok a.0) (Err cause) a.1 left a.2 b).0
counted_one items alike reading p words (Err why) (Err cause) rest left (inr a) (inr b) =
    let x = unsigned_one 64 words (Ok a.0) (Ok b.0) a.1 b.1 a.2 b.2 in
    let later = ReadsLater reading.reads in
    count_one items alike later a.0 (later_one alike reading p) a.1 (Err why) (Err cause) rest left a.3 (count_moved items later a.0 b.0 a.1 b.1 (Err cause) left x.0 x.1 b.3)

-- ---- words that are skipped

pub one_skipped_one : {T : Type 0} → GivesOne (single {T = T}) (one_skipped {T = T}).reads
one_skipped_one words (Ok one) (Ok other) rest left a b = (tt, a.1 ∙ sym b.1)
one_skipped_one words (Ok one) (Err why) rest left a b = absurd (false≢true b.0)
one_skipped_one words (Err why) answer rest left a b = absurd (false≢true a.0)

pub all_skipped_one : {T : Type 0} → GivesOne (single {T = T}) (all_skipped {T = T}).reads
all_skipped_one words (Ok one) (Ok other) rest left a b = (tt, a.1 ∙ sym b.1)
all_skipped_one words (Ok one) (Err why) rest left a b = absurd (false≢true b.0)
all_skipped_one words (Err why) answer rest left a b = absurd (false≢true a.0)
