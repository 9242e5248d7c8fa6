-- Values that are alike: equal, wherever they are kept in memory.
use Rattle.std.specs.Prelude.{◌≡◌, ◌≢◌, ◌↔◌, List, [], ◌∷◌, Option, Some, None, Result, Ok, Err, String, string_bytes, ⊤}
use Rattle.std.specs.Global.{Global}
use Rattle.whiteread.specs.Words.{Words}
use Rattle.whiteread.specs.Reading.{Relation}
use Rattle.whiteread.specs.declared.stream.error.Error.{Error}
use Rattle.whiteread.specs.declared.stream.error.Error.TheVariants.{NoMemory}

-- A likeness says of two values whether they are alike.
abbrev pub Likeness : Type 0 → Type 1
Likeness T = T → T → Type 0

-- Both are Ok with values that are alike, or both are the same error.
abbrev pub AnswersAlike : {T : Type 0} → Likeness T → Result T Error → Result T Error → Type 0
AnswersAlike alike (Ok one) (Ok other) = alike one other
AnswersAlike alike (Ok one) (Err why) = ⊥
AnswersAlike alike (Err why) (Ok other) = ⊥
AnswersAlike alike (Err one) (Err other) = one ≡ other

-- The same words give answers that are alike, and the same words are left.
abbrev pub GivesOne : {T : Type 0} → Likeness T → Relation T → Type 0
GivesOne {T} alike reads = (words : Words) (one other : Result T Error) (rest left : Words) → reads words one rest → reads words other left
    → AnswersAlike alike one other × (rest ≡ left)

-- Two values are one and the same.
abbrev pub same : {T : Type 0} → Likeness T
same one other = one ≡ other

-- Any two values are alike, since the type has a single one.
abbrev pub single : {T : Type 0} → Likeness T
single one other = ⊤

-- Two texts have the same bytes.
abbrev pub same_text : Likeness (String Global)
same_text one other = string_bytes one ≡ string_bytes other

-- Both are None, or both are Some with values that are alike.
abbrev pub options_alike : {T : Type 0} → Likeness T → Likeness (Option T)
options_alike alike None None = ⊤
options_alike alike None (Some other) = ⊥
options_alike alike (Some one) None = ⊥
options_alike alike (Some one) (Some other) = alike one other

-- There are as many values in one list as in the other, and those at the same place are alike.
abbrev pub each_alike : {T : Type 0} → Likeness T → Likeness (List T)
each_alike alike [] [] = ⊤
each_alike alike [] (other ∷ others) = ⊥
each_alike alike (one ∷ ones) [] = ⊥
each_alike alike (one ∷ ones) (other ∷ others) = alike one other × each_alike alike ones others

-- What two values hold is alike.
abbrev pub inside_alike : {T W : Type 0} → (W → T) → Likeness T → Likeness W
inside_alike inner alike one other = alike (inner one) (inner other)

-- Both parts of two values are alike.
abbrev pub parts_alike : {A B C : Type 0} → (C → A) → (C → B) → Likeness A → Likeness B → Likeness C
parts_alike front last first second one other = first (front one) (front other) × second (last one) (last other)

-- The two members are alike.
abbrev pub pairs_alike : {A B : Type 0} → Likeness A → Likeness B → Likeness (A × B)
pairs_alike a b = parts_alike (λ all. all.0) (λ all. all.1) a b

-- The three members are alike.
abbrev pub triples_alike : {A B C : Type 0} → Likeness A → Likeness B → Likeness C → Likeness (A × B × C)
triples_alike a b c = parts_alike (λ all. (all.0, all.1)) (λ all. all.2) (pairs_alike a b) c

-- The four members are alike.
abbrev pub quadruples_alike : {A B C D : Type 0} → Likeness A → Likeness B → Likeness C → Likeness D → Likeness (A × B × C × D)
quadruples_alike a b c d = parts_alike (λ all. (all.0, all.1, all.2)) (λ all. all.3) (triples_alike a b c) d

-- The five members are alike.
abbrev pub quintuples_alike : {A B C D E : Type 0} → Likeness A → Likeness B → Likeness C → Likeness D → Likeness E → Likeness (A × B × C × D × E)
quintuples_alike a b c d e = parts_alike (λ all. (all.0, all.1, all.2, all.3)) (λ all. all.4) (quadruples_alike a b c d) e

-- The six members are alike.
abbrev pub sextuples_alike : {A B C D E F : Type 0} → Likeness A → Likeness B → Likeness C → Likeness D → Likeness E → Likeness F → Likeness (A × B × C × D × E × F)
sextuples_alike a b c d e f = parts_alike (λ all. (all.0, all.1, all.2, all.3, all.4)) (λ all. all.5) (quintuples_alike a b c d e) f

-- Of values that are alike both are zero, or neither is.
abbrev pub SharesZero : {T : Type 0} → Likeness T → (T → Type 0) → Type 0
SharesZero {T} alike zero = (one other : T) → alike one other → zero one ↔ zero other
