-- Proofs that each type's reading gives one answer, which the impls cite.
use Rattle.std.proofs.Common.{◌≡◌, ℕ, Bool, true, false, List, [], ◌∷◌, ◌++◌, length, length-append, Some, None, Result, Ok, Err, refl, sym, ◌∙◌, ap, subst, arith, inl, inr}
use Rattle.std.specs.Prelude.{encode_utf8}
use Rattle.std.specs.Str.Parse.{ParsesUnsigned, ParsesSigned, ParsesBool}
use Rattle.std.proofs.lemmas.Str.{encode_same, length-encode, len_utf8_bounds}
use Rattle.std.proofs.lemmas.Bool.{false≢true}
use mir.Syntax.{Width}
use Rattle.whiteread.specs.Words.{Words}
use Rattle.whiteread.specs.Reading.{Reading, Relation}
use Rattle.whiteread.specs.Reading.Reads.{ReadsWord, unsigned, signed, boolean, any_word, FirstChar, character, nothing, optional}
use Rattle.whiteread.specs.Reading.Tuples.{around, as_later, later, then, pair, triple, quadruple, quintuple, sextuple}
use Rattle.whiteread.specs.declared.stream.error.Error.{Error}
use Rattle.reader_laws.specs.Alike.{Likeness, AnswersAlike, GivesOne, same, same_text, options_alike, inside_alike, parts_alike, pairs_alike, triples_alike, quadruples_alike, quintuples_alike, sextuples_alike}

-- ---- one word

same_refusal : {T : Type 0} (alike : Likeness T) (one other : Result T Error) (why : Error) → one ≡ Err why → other ≡ Err why → AnswersAlike alike one other
same_refusal alike one other why is was =
    subst (λ (o : Result _ Error). AnswersAlike alike o other) (sym is) (subst (λ (o : Result _ Error). AnswersAlike alike (Err why) o) (sym was) refl)

-- A rule gives a word values that are alike, or refuses it, and never both.
pub record DecidesByWord {T : Type 0} (alike : Likeness T) (rule : List ℕ → Result T Error → Type 0) : Type 0 where
  pub values : (word : List ℕ) (one other : T) → rule word (Ok one) → rule word (Ok other) → alike one other
  pub refusal : (word : List ℕ) (value : T) (why : Error) → rule word (Ok value) → rule word (Err why) → ⊥

pub word_one : {T : Type 0} (alike : Likeness T) (rule : List ℕ → Result T Error → Type 0) → DecidesByWord alike rule → GivesOne alike (ReadsWord rule)
word_one alike rule single [] one other rest left a b = (same_refusal alike one other _ a.0 b.0, a.1 ∙ sym b.1)
word_one alike rule single (word ∷ words) (Ok one) (Ok other) rest left a b = (single.values word one other a.0 b.0, a.2 ∙ sym b.2)
word_one alike rule single (word ∷ words) (Ok one) (Err why) rest left a b = absurd (single.refusal word one why a.0 b.0)
word_one alike rule single (word ∷ words) (Err why) (Ok other) rest left a b = absurd (single.refusal word other why b.0 a.0)
word_one alike rule single (word ∷ words) (Err why) (Err cause) rest left a b = (a.1 ∙ sym b.1, a.2 ∙ sym b.2)

pub unsigned_one : (bits : ℕ) → GivesOne same (unsigned bits).reads
unsigned_one bits = word_one same (ParsesUnsigned bits 10) (record {
  values = λ word one other a b. a.1 ∙ sym b.1;
  refusal = λ word value why a b. b a.0;
})

pub signed_one : (width : Width) → GivesOne same (signed width).reads
signed_one width = word_one same (ParsesSigned width 10) (record {
  values = λ word one other a b. a.1 ∙ sym b.1;
  refusal = λ word value why a b. b a.0;
})

bool_values : (word : List ℕ) (one other : Bool) → ParsesBool {E = Error} word (Ok one) → ParsesBool {E = Error} word (Ok other) → one ≡ other
bool_values word true true a b = refl
bool_values word true false a b = absurd (omega (arith, ap (λ (l : List ℕ). length l) (sym a ∙ b)))
bool_values word false true a b = absurd (omega (arith, ap (λ (l : List ℕ). length l) (sym a ∙ b)))
bool_values word false false a b = refl

bool_refusal : (word : List ℕ) (value : Bool) (why : Error) → ParsesBool {E = Error} word (Ok value) → ParsesBool {E = Error} word (Err why) → ⊥
bool_refusal word true why a b = b.0 a
bool_refusal word false why a b = b.1 a

pub boolean_one : GivesOne same boolean.reads
boolean_one = word_one same ParsesBool (record { values = bool_values; refusal = bool_refusal })

pub text_one : GivesOne same_text any_word.reads
text_one = word_one same_text _ (record {
  values = λ word one other a b. a ∙ sym b;
  refusal = λ word value why a b. b;
})

some_bytes : (c : ℕ) (more : List ℕ) → [] ≡ encode_utf8 c ++ more → ⊥
some_bytes c more none = omega (arith, ap (λ (l : List ℕ). length l) none, length-append (encode_utf8 c) more, length-encode c, (len_utf8_bounds c).0)

pub character_one : GivesOne same character.reads
character_one = word_one same FirstChar (record {
  values = λ word one other a b. (encode_same one other a.0 b.0 (sym a.1 ∙ b.1)).0;
  refusal = λ word value why a b. some_bytes value a.0 (sym b ∙ a.1);
})

-- ---- values around and beside others

pub nothing_one : GivesOne same nothing.reads
nothing_one words (Ok one) (Ok other) rest left a b = (refl, a.1 ∙ sym b.1)
nothing_one words (Ok one) (Err why) rest left a b = absurd (false≢true b.0)
nothing_one words (Err why) (Ok other) rest left a b = absurd (false≢true a.0)
nothing_one words (Err why) (Err cause) rest left a b = absurd (false≢true a.0)

pub around_one : {T W : Type 0} (inner : W → T) (alike : Likeness T) (reading : Reading T) → GivesOne alike reading.reads → GivesOne (inside_alike inner alike) (around inner reading).reads
around_one inner alike reading p words (Ok one) (Ok other) rest left a b = p words (Ok (inner one)) (Ok (inner other)) rest left a b
around_one inner alike reading p words (Ok one) (Err why) rest left a b = p words (Ok (inner one)) (Err why) rest left a b
around_one inner alike reading p words (Err why) (Ok other) rest left a b = p words (Err why) (Ok (inner other)) rest left a b
around_one inner alike reading p words (Err why) (Err cause) rest left a b = p words (Err why) (Err cause) rest left a b

pub optional_one : {T : Type 0} (alike : Likeness T) (reading : Reading T) → GivesOne alike reading.reads → GivesOne (options_alike alike) (optional reading).reads
optional_one alike reading p words (Ok None) (Ok None) rest left a b = (tt, (p words _ _ rest left a b).1)
optional_one alike reading p words (Ok None) (Ok (Some other)) rest left a b = absurd (p words _ (Ok other) rest left a b).0
optional_one alike reading p words (Ok None) (Err why) rest left a b = absurd (b.0 (sym (p words _ (Err why) rest left a b.1).0))
optional_one alike reading p words (Ok (Some one)) (Ok None) rest left a b = absurd (p words (Ok one) _ rest left a b).0
optional_one alike reading p words (Ok (Some one)) (Ok (Some other)) rest left a b = p words (Ok one) (Ok other) rest left a b
optional_one alike reading p words (Ok (Some one)) (Err why) rest left a b = absurd (p words (Ok one) (Err why) rest left a b.1).0
optional_one alike reading p words (Err why) (Ok None) rest left a b = absurd (a.0 (p words (Err why) _ rest left a.1 b).0)
optional_one alike reading p words (Err why) (Ok (Some other)) rest left a b = absurd (p words (Err why) (Ok other) rest left a.1 b).0
optional_one alike reading p words (Err why) (Err cause) rest left a b = p words (Err why) (Err cause) rest left a.1 b.1

pub later_one : {T : Type 0} (alike : Likeness T) (reading : Reading T) → GivesOne alike reading.reads → GivesOne alike (later reading).reads
later_one alike reading p words (Ok one) (Ok other) rest left a b = p words (Ok one) (Ok other) rest left a b
later_one alike reading p words (Ok one) (Err why) rest left a b = absurd (p words (Ok one) (Err b.0) rest left a b.1).0
later_one alike reading p words (Err why) (Ok other) rest left a b = absurd (p words (Err a.0) (Ok other) rest left a.1 b).0
later_one alike reading p words (Err why) (Err cause) rest left a b =
    let one = p words (Err a.0) (Err b.0) rest left a.1 b.1 in
    (a.2 ∙ ap as_later one.0 ∙ sym b.2, one.1)

-- from the same words on
pub moved : {T : Type 0} (reads : Relation T) (mid next : Words) (answer : Result T Error) (rest : Words) → mid ≡ next → reads next answer rest → reads mid answer rest
moved reads mid next answer rest is read = subst (λ (words : Words). reads words answer rest) (sym is) read

pub then_one : {A B C : Type 0} (front : C → A) (last : C → B) (one : Likeness A) (two : Likeness B) (first : Reading A) (second : Reading B)
    → GivesOne one first.reads → GivesOne two second.reads → GivesOne (parts_alike front last one two) (then front last first second).reads
then_one front last one two first second p q words (Ok value) (Ok other) rest left a b =
    let x = p words (Ok (front value)) (Ok (front other)) a.0 b.0 a.1 b.1 in
    let y = q a.0 (Ok (last value)) (Ok (last other)) rest left a.2 (moved second.reads a.0 b.0 (Ok (last other)) left x.1 b.2) in
    ((x.0, y.0), y.1)
then_one front last one two first second p q words (Ok value) (Err why) rest left a (inl b) = absurd (p words (Ok (front value)) (Err why) a.0 left a.1 b).0
then_one front last one two first second p q words (Ok value) (Err why) rest left a (inr b) =
    let x = p words (Ok (front value)) (Ok b.0) a.0 b.1 a.1 b.2 in
    absurd (q a.0 (Ok (last value)) (Err why) rest left a.2 (moved second.reads a.0 b.1 (Err why) left x.1 b.3)).0
then_one front last one two first second p q words (Err why) (Ok value) rest left (inl a) b = absurd (p words (Err why) (Ok (front value)) rest b.0 a b.1).0
then_one front last one two first second p q words (Err why) (Ok value) rest left (inr a) b =
    let x = p words (Ok a.0) (Ok (front value)) a.1 b.0 a.2 b.1 in
    absurd (q a.1 (Err why) (Ok (last value)) rest left a.3 (moved second.reads a.1 b.0 (Ok (last value)) left x.1 b.2)).0
then_one front last one two first second p q words (Err why) (Err cause) rest left (inl a) (inl b) = p words (Err why) (Err cause) rest left a b
then_one front last one two first second p q words (Err why) (Err cause) rest left (inl a) (inr b) = absurd (p words (Err why) (Ok b.0) rest b.1 a b.2).0
then_one front last one two first second p q words (Err why) (Err cause) rest left (inr a) (inl b) = absurd (p words (Ok a.0) (Err cause) a.1 left a.2 b).0
then_one front last one two first second p q words (Err why) (Err cause) rest left (inr a) (inr b) =
    let x = p words (Ok a.0) (Ok b.0) a.1 b.1 a.2 b.2 in
    q a.1 (Err why) (Err cause) rest left a.3 (moved second.reads a.1 b.1 (Err cause) left x.1 b.3)

pub pair_one : {A B : Type 0} (a : Likeness A) (b : Likeness B) (first : Reading A) (second : Reading B) → GivesOne a first.reads → GivesOne b second.reads
    → GivesOne (pairs_alike a b) (pair first second).reads
pair_one a b first second p q = then_one (λ all. all.0) (λ all. all.1) a b first (later second) p (later_one b second q)

pub triple_one : {A B C : Type 0} (a : Likeness A) (b : Likeness B) (c : Likeness C) (first : Reading A) (second : Reading B) (third : Reading C)
    → GivesOne a first.reads → GivesOne b second.reads → GivesOne c third.reads → GivesOne (triples_alike a b c) (triple first second third).reads
triple_one a b c first second third p q r =
    then_one (λ all. (all.0, all.1)) (λ all. all.2) (pairs_alike a b) c (pair first second) (later third) (pair_one a b first second p q) (later_one c third r)

pub quadruple_one : {A B C D : Type 0} (a : Likeness A) (b : Likeness B) (c : Likeness C) (d : Likeness D) (first : Reading A) (second : Reading B) (third : Reading C) (fourth : Reading D)
    → GivesOne a first.reads → GivesOne b second.reads → GivesOne c third.reads → GivesOne d fourth.reads → GivesOne (quadruples_alike a b c d) (quadruple first second third fourth).reads
quadruple_one a b c d first second third fourth p q r s =
    then_one (λ all. (all.0, all.1, all.2)) (λ all. all.3) (triples_alike a b c) d (triple first second third) (later fourth) (triple_one a b c first second third p q r) (later_one d fourth s)

pub quintuple_one : {A B C D E : Type 0} (a : Likeness A) (b : Likeness B) (c : Likeness C) (d : Likeness D) (e : Likeness E)
    (first : Reading A) (second : Reading B) (third : Reading C) (fourth : Reading D) (fifth : Reading E)
    → GivesOne a first.reads → GivesOne b second.reads → GivesOne c third.reads → GivesOne d fourth.reads → GivesOne e fifth.reads
    → GivesOne (quintuples_alike a b c d e) (quintuple first second third fourth fifth).reads
quintuple_one a b c d e first second third fourth fifth p q r s t =
    then_one (λ all. (all.0, all.1, all.2, all.3)) (λ all. all.4) (quadruples_alike a b c d) e (quadruple first second third fourth) (later fifth)
    (quadruple_one a b c d first second third fourth p q r s) (later_one e fifth t)

pub sextuple_one : {A B C D E F : Type 0} (a : Likeness A) (b : Likeness B) (c : Likeness C) (d : Likeness D) (e : Likeness E) (f : Likeness F)
    (first : Reading A) (second : Reading B) (third : Reading C) (fourth : Reading D) (fifth : Reading E) (sixth : Reading F)
    → GivesOne a first.reads → GivesOne b second.reads → GivesOne c third.reads → GivesOne d fourth.reads → GivesOne e fifth.reads → GivesOne f sixth.reads
    → GivesOne (sextuples_alike a b c d e f) (sextuple first second third fourth fifth sixth).reads
sextuple_one a b c d e f first second third fourth fifth sixth p q r s t u =
    then_one (λ all. (all.0, all.1, all.2, all.3, all.4)) (λ all. all.5) (quintuples_alike a b c d e) f (quintuple first second third fourth fifth) (later sixth)
    (quintuple_one a b c d e first second third fourth fifth p q r s t) (later_one f sixth u)
