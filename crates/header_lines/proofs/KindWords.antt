-- What words name: a line with a word that names no kind names no kinds, and a line names the same kinds each time.
use Rattle.std.proofs.Common.{◌≡◌, ◌==◌, ◌++◌, ℕ, List, [], ◌∷◌, map, codes, get_or, if◌then◌else◌, refl, sym, ap, ◌∙◌, arith}
use Rattle.values.specs.declared.kind.Kind.{Kind}
use Rattle.values.specs.declared.kind.Kind.TheVariants.{U8, U16, U32, U64, Usize, I8, I16, I32, I64, Isize, Word, Char}
use Rattle.values.specs.declared.kind.KindsError.{KindsError}
use Rattle.values.specs.Kind.{kind_word, AreKinds, IsFirstUnknown, NamesNoKind}
use Rattle.header_lines.specs.Headers.{IsKindsLine}
use Rattle.header_lines.specs.Heading.{IsSecondVersion}

not_among : (front : List Kind) (word : List ℕ) (rest : List (List ℕ)) (kinds : List Kind) → NamesNoKind word → map kind_word front ++ word ∷ rest ≡ map kind_word kinds → ⊥
not_among [] word rest [] none e = absurd (cc)
not_among [] word rest (kind ∷ kinds) none e = let same : word ≡ kind_word kind = cc in none kind same
not_among (x ∷ front) word rest [] none e = absurd (cc)
not_among (x ∷ front) word rest (kind ∷ kinds) none e = let same : map kind_word front ++ word ∷ rest ≡ map kind_word kinds = cc in not_among front word rest kinds none same

pub no_kinds : (line : List (List ℕ)) (why : KindsError) → IsFirstUnknown line why → (kinds : List Kind) → ¬ AreKinds line kinds
no_kinds line why (front, word, rest, is, none, place) kinds named = not_among front word rest kinds none (sym is ∙ named)

-- kinds, by the first two letters of their words

kind_by : ℕ → Kind → Kind → Kind → Kind → Kind → Kind
kind_by letter a b c d e = if letter == 56 then a else (if letter == 49 then b else (if letter == 51 then c else (if letter == 54 then d else e)))

kind_in : List ℕ → Kind
kind_in word = if get_or word 0 0 == 117 then kind_by (get_or word 1 0) U8 U16 U32 U64 Usize else (if get_or word 0 0 == 105 then kind_by (get_or word 1 0) I8 I16 I32 I64 Isize
    else (if get_or word 0 0 == 119 then Word else Char))

kind_is : (kind : Kind) → kind_in (kind_word kind) ≡ kind
unfolding kind_in kind_by
kind_is U8 = refl
kind_is U16 = refl
kind_is U32 = refl
kind_is U64 = refl
kind_is Usize = refl
kind_is I8 = refl
kind_is I16 = refl
kind_is I32 = refl
kind_is I64 = refl
kind_is Isize = refl
kind_is Word = refl
kind_is Char = refl

same_kinds : (a b : List Kind) → map kind_word a ≡ map kind_word b → a ≡ b
same_kinds [] [] e = refl
same_kinds [] (y ∷ b) e = absurd (cc)
same_kinds (x ∷ a) [] e = absurd (cc)
same_kinds (x ∷ a) (y ∷ b) e =
    let first : kind_word x ≡ kind_word y = cc in
    let rest : map kind_word a ≡ map kind_word b = cc in
    let one : x ≡ y = sym (kind_is x) ∙ ap kind_in first ∙ kind_is y in
    let more : a ≡ b = same_kinds a b rest in
    cc

pub one_kinds : (line : List ℕ) (a b : List Kind) → IsKindsLine line a → IsKindsLine line b → a ≡ b
one_kinds line a b p q = same_kinds a b (sym p ∙ q)

-- `#2` names no kind: no kind's word begins with `#`

begins : List ℕ → ℕ
begins word = get_or word 0 0

no_kind_begins : (kind : Kind) → codes "#2" ≡ kind_word kind → ⊥
unfolding begins
no_kind_begins U8 e = let other : 35 ≡ 117 = ap begins e in absurd (omega (arith, other))
no_kind_begins U16 e = let other : 35 ≡ 117 = ap begins e in absurd (omega (arith, other))
no_kind_begins U32 e = let other : 35 ≡ 117 = ap begins e in absurd (omega (arith, other))
no_kind_begins U64 e = let other : 35 ≡ 117 = ap begins e in absurd (omega (arith, other))
no_kind_begins Usize e = let other : 35 ≡ 117 = ap begins e in absurd (omega (arith, other))
no_kind_begins I8 e = let other : 35 ≡ 105 = ap begins e in absurd (omega (arith, other))
no_kind_begins I16 e = let other : 35 ≡ 105 = ap begins e in absurd (omega (arith, other))
no_kind_begins I32 e = let other : 35 ≡ 105 = ap begins e in absurd (omega (arith, other))
no_kind_begins I64 e = let other : 35 ≡ 105 = ap begins e in absurd (omega (arith, other))
no_kind_begins Isize e = let other : 35 ≡ 105 = ap begins e in absurd (omega (arith, other))
no_kind_begins Word e = let other : 35 ≡ 119 = ap begins e in absurd (omega (arith, other))
no_kind_begins Char e = let other : 35 ≡ 99 = ap begins e in absurd (omega (arith, other))

no_kinds_are : (kinds : List Kind) → codes "#2" ∷ [] ≡ map kind_word kinds → ⊥
no_kinds_are [] e = absurd (cc)
no_kinds_are (kind ∷ kinds) e = let same : codes "#2" ≡ kind_word kind = cc in no_kind_begins kind same

pub second_names_none : (line : List ℕ) (kinds : List Kind) → IsSecondVersion line → IsKindsLine line kinds → ⊥
second_names_none line kinds second named = no_kinds_are kinds (sym second ∙ named)
