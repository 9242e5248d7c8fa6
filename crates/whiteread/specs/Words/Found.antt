-- The next word of a text from a place on, and the next boundary.
use Rattle.std.specs.Prelude.{◌≡◌, ℕ, ◌+◌, ◌<◌, ◌≤◌, IsCharBoundary, List, [], ◌∷◌, ◌++◌, length, drop, max, Option, Some, None}
use Rattle.std.specs.List.{AllPass}
use Rattle.whiteread.specs.Words.{words, is_blank}

-- This is the first place at or after another where a character begins or the text ends; a place past the end stays.
pub record FirstBoundary (text : List ℕ) (from to : ℕ) : Type 0 where
  pub boundary : from ≤ length text → IsCharBoundary text to
  pub past : length text < from → to ≡ from
  pub after : from ≤ to
  pub first : (place : ℕ) → from ≤ place → place < to → ¬ (IsCharBoundary text place)

-- From a place on, blanks and then the first word stand up to another place.
pub record FindsWord (text : List ℕ) (from : ℕ) (word : List ℕ) (to : ℕ) : Type 0 where
  pub gap : List ℕ
  pub blanks : AllPass is_blank gap
  pub stands : drop from text ≡ gap ++ (word ++ drop to text)
  pub end : to ≡ from + length gap + length word
  pub first : words (drop from text) ≡ word ∷ words (drop to text)

-- The next word moves the position to its end; where there is none, the position is the text's end, or stays past it.
abbrev pub NextWord : List ℕ → ℕ → Option (List ℕ) → ℕ → Type 0
NextWord text from (Some word) to = FindsWord text from word to
NextWord text from None to = (words (drop from text) ≡ []) × (to ≡ max from (length text))
