-- The kinds, and the words that name them.
use Rattle.std.specs.Prelude.{◌≡◌, ◌≢◌, ◌+◌, ℕ, List, ◌∷◌, ◌++◌, map, length, codes}
use Rattle.values.specs.declared.kind.Kind.{Kind}
use Rattle.values.specs.declared.kind.Kind.TheVariants.{U8, U16, U32, U64, Usize, I8, I16, I32, I64, Isize, Word, Char}
use Rattle.values.specs.declared.kind.KindsError.{KindsError}
use Rattle.values.specs.declared.kind.KindsError.TheVariants.{Unknown}

-- The word that names each kind.
abbrev pub kind_word : Kind → List ℕ
kind_word U8 = codes "u8"
kind_word U16 = codes "u16"
kind_word U32 = codes "u32"
kind_word U64 = codes "u64"
kind_word Usize = codes "usize"
kind_word I8 = codes "i8"
kind_word I16 = codes "i16"
kind_word I32 = codes "i32"
kind_word I64 = codes "i64"
kind_word Isize = codes "isize"
kind_word Word = codes "word"
kind_word Char = codes "char"

-- The words name these kinds, in order.
abbrev pub AreKinds : List (List ℕ) → List Kind → Type 0
AreKinds words kinds = words ≡ map kind_word kinds

-- The word names no kind.
abbrev pub NamesNoKind : List ℕ → Type 0
NamesNoKind word = (kind : Kind) → word ≢ kind_word kind

-- The refusal is at the first of the words that names no kind; places count from 1.
abbrev pub IsFirstUnknown : List (List ℕ) → KindsError → Type 0
IsFirstUnknown words why = (kinds : List Kind) × (word : List ℕ) × (rest : List (List ℕ))
    × (words ≡ map kind_word kinds ++ word ∷ rest) × NamesNoKind word × (why ≡ Unknown (length kinds + 1))
