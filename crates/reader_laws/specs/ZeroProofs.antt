-- Proofs on values that end a list, which the impls cite.
use Rattle.std.proofs.Common.{◌≡◌, List, [], ◌∷◌, Ok, Err, refl, sym, ◌∙◌, ap, subst}
use Rattle.std.specs.Prelude.{string_bytes}
use Rattle.std.specs.List.{All}
use Rattle.std.proofs.lemmas.List.Elements.{All-head, All-tail}
use Rattle.whiteread.specs.Words.{Words}
use Rattle.whiteread.specs.Reading.{Reading, Relation}
use Rattle.whiteread.specs.Reading.Reads.{ReadsEach}
use Rattle.whiteread.specs.Reading.Tuples.{as_later}
use Rattle.whiteread.specs.Reading.Adapted.{reads_after, to_zero}
use Rattle.whiteread.specs.declared.stream.error.Error.{Error}
use Rattle.reader_laws.specs.Alike.{Likeness, GivesOne, SharesZero, same, same_text, each_alike, inside_alike, pairs_alike, triples_alike, quadruples_alike, quintuples_alike}
use Rattle.reader_laws.specs.AlikeProofs.{moved}
use Rattle.reader_laws.specs.ListProofs.{each_moved, each_stopped}

-- ---- what shares a zero

pub same_zero : {T : Type 0} (zero : T → Type 0) → SharesZero same zero
same_zero zero one other is = (λ z. subst zero is z, λ z. subst zero (sym is) z)

pub inside_zero : {T W : Type 0} (inner : W → T) (alike : Likeness T) (zero : T → Type 0) → SharesZero alike zero → SharesZero (inside_alike inner alike) (λ value. zero (inner value))
inside_zero inner alike zero p one other is = p (inner one) (inner other) is

none_alike : {T : Type 0} (alike : Likeness T) (ones others : List T) → each_alike alike ones others → ones ≡ [] → others ≡ []
none_alike alike [] [] is none = refl
none_alike alike [] (other ∷ others) is none = absurd is
none_alike alike (one ∷ ones) [] is none = refl
none_alike alike (one ∷ ones) (other ∷ others) is none = absurd (let e = none in cc)

alike_none : {T : Type 0} (alike : Likeness T) (ones others : List T) → each_alike alike ones others → others ≡ [] → ones ≡ []
alike_none alike [] others is none = refl
alike_none alike (one ∷ ones) [] is none = absurd is
alike_none alike (one ∷ ones) (other ∷ others) is none = absurd (let e = none in cc)

empty_zero : {T : Type 0} (alike : Likeness T) → SharesZero (each_alike alike) (λ values. values ≡ [])
empty_zero alike ones others is = (none_alike alike ones others is, alike_none alike ones others is)

pub items_zero : {T W : Type 0} (items : W → List T) (alike : Likeness T) → SharesZero (inside_alike items (each_alike alike)) (λ value. items value ≡ [])
items_zero items alike one other is = empty_zero alike (items one) (items other) is

pub text_zero : SharesZero same_text (λ text. string_bytes text ≡ [])
text_zero one other is = (λ z. sym is ∙ z, λ z. is ∙ z)

pub pair_zero : {A B : Type 0} (a : Likeness A) (b : Likeness B) (zero_a : A → Type 0) (zero_b : B → Type 0) → SharesZero a zero_a → SharesZero b zero_b
    → SharesZero (pairs_alike a b) (λ all. zero_a all.0 × zero_b all.1)
pair_zero a b zero_a zero_b p q one other is =
    (λ z. ((p one.0 other.0 is.0).0 z.0, (q one.1 other.1 is.1).0 z.1), λ z. ((p one.0 other.0 is.0).1 z.0, (q one.1 other.1 is.1).1 z.1))

pub triple_zero : {A B C : Type 0} (a : Likeness A) (b : Likeness B) (c : Likeness C) (zero_a : A → Type 0) (zero_b : B → Type 0) (zero_c : C → Type 0)
    → SharesZero a zero_a → SharesZero b zero_b → SharesZero c zero_c → SharesZero (triples_alike a b c) (λ all. zero_a all.0 × zero_b all.1 × zero_c all.2)
triple_zero a b c zero_a zero_b zero_c p q r one other is =
    let two = pair_zero a b zero_a zero_b p q (one.0, one.1) (other.0, other.1) is.0 in
    let last = r one.2 other.2 is.1 in
    (λ z. (let t = two.0 (z.0, z.1) in (t.0, t.1, last.0 z.2)), λ z. (let t = two.1 (z.0, z.1) in (t.0, t.1, last.1 z.2)))

pub quadruple_zero : {A B C D : Type 0} (a : Likeness A) (b : Likeness B) (c : Likeness C) (d : Likeness D) (zero_a : A → Type 0) (zero_b : B → Type 0) (zero_c : C → Type 0) (zero_d : D → Type 0)
    → SharesZero a zero_a → SharesZero b zero_b → SharesZero c zero_c → SharesZero d zero_d
    → SharesZero (quadruples_alike a b c d) (λ all. zero_a all.0 × zero_b all.1 × zero_c all.2 × zero_d all.3)
quadruple_zero a b c d zero_a zero_b zero_c zero_d p q r s one other is =
    let three = triple_zero a b c zero_a zero_b zero_c p q r (one.0, one.1, one.2) (other.0, other.1, other.2) is.0 in
    let last = s one.3 other.3 is.1 in
    (λ z. (let t = three.0 (z.0, z.1, z.2) in (t.0, t.1, t.2, last.0 z.3)), λ z. (let t = three.1 (z.0, z.1, z.2) in (t.0, t.1, t.2, last.1 z.3)))

pub quintuple_zero : {A B C D E : Type 0} (a : Likeness A) (b : Likeness B) (c : Likeness C) (d : Likeness D) (e : Likeness E)
    (zero_a : A → Type 0) (zero_b : B → Type 0) (zero_c : C → Type 0) (zero_d : D → Type 0) (zero_e : E → Type 0)
    → SharesZero a zero_a → SharesZero b zero_b → SharesZero c zero_c → SharesZero d zero_d → SharesZero e zero_e
    → SharesZero (quintuples_alike a b c d e) (λ all. zero_a all.0 × zero_b all.1 × zero_c all.2 × zero_d all.3 × zero_e all.4)
quintuple_zero a b c d e zero_a zero_b zero_c zero_d zero_e p q r s t one other is =
    let four = quadruple_zero a b c d zero_a zero_b zero_c zero_d p q r s (one.0, one.1, one.2, one.3) (other.0, other.1, other.2, other.3) is.0 in
    let last = t one.4 other.4 is.1 in
    (λ z. (let u = four.0 (z.0, z.1, z.2, z.3) in (u.0, u.1, u.2, u.3, last.0 z.4)), λ z. (let u = four.1 (z.0, z.1, z.2, z.3) in (u.0, u.1, u.2, u.3, last.1 z.4)))

-- ---- values up to a zero

-- None of these values is zero.
abbrev NoZero : {T : Type 0} → (T → Type 0) → List T → Type 0
NoZero zero values = All (λ item. ¬ (zero item)) values

-- the same words give values that are alike, up to the first zero
each_zero : {T : Type 0} (alike : Likeness T) (zero : T → Type 0) (reads : Relation T) → GivesOne alike reads → SharesZero alike zero → (words : Words) (ones others : List T) (mid next : Words) (last end : T) (rest left : Words)
    → ReadsEach reads words ones mid → ReadsEach reads words others next → NoZero zero ones → NoZero zero others → reads mid (Ok last) rest → reads next (Ok end) left → zero last → zero end
    → each_alike alike ones others × (rest ≡ left)
each_zero alike zero reads p z words [] [] mid next last end rest left a b some more c d is was =
    (tt, (p mid (Ok last) (Ok end) rest left c (moved reads mid next (Ok end) left (a ∙ sym b) d)).1)
each_zero alike zero reads p z words [] (other ∷ others) mid next last end rest left a b some more c d is was =
    let x = p words (Ok last) (Ok other) rest b.0 (moved reads words mid (Ok last) rest (sym a) c) b.1 in
    absurd (All-head (λ item. ¬ (zero item)) other others more ((z last other x.0).0 is))
each_zero alike zero reads p z words (one ∷ ones) [] mid next last end rest left a b some more c d is was =
    let x = p words (Ok one) (Ok end) a.0 left a.1 (moved reads words next (Ok end) left (sym b) d) in
    absurd (All-head (λ item. ¬ (zero item)) one ones some ((z one end x.0).1 was))
each_zero alike zero reads p z words (one ∷ ones) (other ∷ others) mid next last end rest left a b some more c d is was =
    let x = p words (Ok one) (Ok other) a.0 b.0 a.1 b.1 in
    let y = each_zero alike zero reads p z a.0 ones others mid next last end rest left a.2 (each_moved reads a.0 b.0 others next x.1 b.2)
    (All-tail (λ item. ¬ (zero item)) one ones some) (All-tail (λ item. ¬ (zero item)) other others more) c d is was in
    ((x.0, y.0), y.1)

-- words that give a zero give no refusal instead
each_no_zero : {T : Type 0} (alike : Likeness T) (zero : T → Type 0) (reads : Relation T) → GivesOne alike reads → SharesZero alike zero → (words : Words) (ones others : List T) (mid next : Words) (last : T) (why : Error) (rest left : Words)
    → ReadsEach reads words ones mid → ReadsEach reads words others next → NoZero zero others → reads mid (Ok last) rest → reads next (Err why) left → zero last → ⊥
each_no_zero alike zero reads p z words [] [] mid next last why rest left a b more c d is =
    (p mid (Ok last) (Err why) rest left c (moved reads mid next (Err why) left (a ∙ sym b) d)).0
each_no_zero alike zero reads p z words [] (other ∷ others) mid next last why rest left a b more c d is =
    let x = p words (Ok last) (Ok other) rest b.0 (moved reads words mid (Ok last) rest (sym a) c) b.1 in
    All-head (λ item. ¬ (zero item)) other others more ((z last other x.0).0 is)
each_no_zero alike zero reads p z words (one ∷ ones) [] mid next last why rest left a b more c d is =
    (p words (Ok one) (Err why) a.0 left a.1 (moved reads words next (Err why) left (sym b) d)).0
each_no_zero alike zero reads p z words (one ∷ ones) (other ∷ others) mid next last why rest left a b more c d is =
    let x = p words (Ok one) (Ok other) a.0 b.0 a.1 b.1 in
    each_no_zero alike zero reads p z a.0 ones others mid next last why rest left a.2 (each_moved reads a.0 b.0 others next x.1 b.2) (All-tail (λ item. ¬ (zero item)) other others more) c d is

-- The error of the value after these values, by the error that the value's own reading gives.
abbrev error_after : {T : Type 0} → List T → Error → Error
error_after [] cause = cause
error_after (value ∷ values) cause = as_later cause

-- the value's own reading refuses
record RefusedAfter {T : Type 0} (values : List T) (reads : Relation T) (words : Words) (why : Error) (rest : Words) : Type 0 where
  cause : Error
  read : reads words (Err cause) rest
  told : why ≡ error_after values cause

refused_after : {T : Type 0} (values : List T) (reads : Relation T) (words : Words) (why : Error) (rest : Words) → reads_after values reads words (Err why) rest → RefusedAfter values reads words why rest
refused_after [] reads words why rest read = record { cause = why; read = read; told = refl }
refused_after (value ∷ values) reads words why rest read = record { cause = read.0; read = read.1; told = read.2 }

error_alike : {T : Type 0} (alike : Likeness T) (ones others : List T) (cause : Error) → each_alike alike ones others → error_after ones cause ≡ error_after others cause
error_alike alike [] [] cause is = refl
error_alike alike [] (other ∷ others) cause is = absurd is
error_alike alike (one ∷ ones) [] cause is = absurd is
error_alike alike (one ∷ ones) (other ∷ others) cause is = refl

pub to_zero_one : {T W : Type 0} (items : W → List T) (zero : T → Type 0) (alike : Likeness T) (reading : Reading T) → GivesOne alike reading.reads → SharesZero alike zero
    → GivesOne (inside_alike items (each_alike alike)) (to_zero items zero reading).reads
to_zero_one items zero alike reading p z words (Ok one) (Ok other) rest left a b =
    each_zero alike zero reading.reads p z words (items one) (items other) a.0 b.0 a.1 b.1 rest left a.2 b.2 a.3 b.3 a.4 b.4 a.5 b.5
to_zero_one items zero alike reading p z words (Ok one) (Err why) rest left a b =
    let refused = refused_after b.0 reading.reads b.1 why left b.4 in
    absurd (each_no_zero alike zero reading.reads p z words (items one) b.0 a.0 b.1 a.1 refused.cause rest left a.2 b.2 b.3 a.4 refused.read a.5)
to_zero_one items zero alike reading p z words (Err why) (Ok other) rest left a b =
    let refused = refused_after a.0 reading.reads a.1 why rest a.4 in
    absurd (each_no_zero alike zero reading.reads p z words (items other) a.0 b.0 a.1 b.1 refused.cause left rest b.2 a.2 a.3 b.4 refused.read b.5)
to_zero_one items zero alike reading p z words (Err why) (Err cause) rest left a b =
    let one = refused_after a.0 reading.reads a.1 why rest a.4 in
    let other = refused_after b.0 reading.reads b.1 cause left b.4 in
    let x = each_stopped alike reading.reads p words a.0 b.0 a.1 b.1 one.cause other.cause rest left a.2 b.2 one.read other.read in
    (one.told ∙ ap (error_after a.0) x.1 ∙ error_alike alike a.0 b.0 other.cause x.0 ∙ sym other.told, x.2)
