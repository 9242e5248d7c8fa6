-- The lines of some bytes.
pub mod Laws
pub mod OneLine
use Rattle.std.specs.Prelude.{◌≡◌, ◌⊎◌, ℕ, ◌<◌, ◌==◌, Bool, false, not, ◌||◌, List, [], ◌∷◌, ◌++◌, length, if◌then◌else◌}
use Rattle.std.specs.List.{AllPass}
use Rattle.whiteread.specs.Words.{onto_first}

-- The byte that ends a line.
abbrev pub line_feed : ℕ
line_feed = 10

-- The lines of bytes: the pieces that line feeds end, without them, and a nonempty rest.
abbrev pub lines_of : List ℕ → List (List ℕ)
lines_of [] = []
lines_of (byte ∷ bytes) = if byte == line_feed then [] ∷ lines_of bytes else onto_first byte (lines_of bytes)

-- None of these bytes is a line feed.
abbrev pub HasNoFeed : List ℕ → Type 0
HasNoFeed bytes = AllPass (λ byte. not (byte == line_feed)) bytes

-- A line with its line feed, which is the only one in it.
abbrev pub IsWhole : List ℕ → Type 0
IsWhole line = (text : List ℕ) × (line ≡ text ++ line_feed ∷ []) × HasNoFeed text

-- A last line, which no line feed ends.
abbrev pub IsUnended : List ℕ → Type 0
IsUnended line = (0 < length line) × HasNoFeed line

-- A line as it stands in the input: whole, or unended with nothing after it.
abbrev pub IsFirstLine : List ℕ → List ℕ → Type 0
IsFirstLine line after = IsWhole line ⊎ (IsUnended line × (after ≡ []))

-- A line without the line feed that ends it.
abbrev pub without_feed : List ℕ → List ℕ
without_feed [] = []
without_feed (byte ∷ []) = if byte == line_feed then [] else byte ∷ []
without_feed (byte ∷ next ∷ bytes) = byte ∷ without_feed (next ∷ bytes)

-- Whether a line feed is among these bytes.
abbrev pub has_feed : List ℕ → Bool
has_feed [] = false
has_feed (byte ∷ bytes) = (byte == line_feed) || has_feed bytes

-- The bytes up to the last line feed, with it.
abbrev pub up_to_last_feed : List ℕ → List ℕ
up_to_last_feed [] = []
up_to_last_feed (byte ∷ bytes) = if has_feed (byte ∷ bytes) then byte ∷ up_to_last_feed bytes else []
