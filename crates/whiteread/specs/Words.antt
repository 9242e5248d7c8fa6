-- The words of a text: its longest runs of bytes above 0x20, in order.
pub mod Found
pub mod Split
pub mod White
use Rattle.std.specs.Prelude.{◌≡◌, ℕ, ◌<◌, Bool, true, false, not, List, [], ◌∷◌, ◌++◌, length, map, filter, nat_le, if◌then◌else◌, chars, encode_utf8_all}
use Rattle.std.specs.Char.{is_whitespace}
use Rattle.std.specs.List.{AllPass}

-- Words are texts, each as its bytes.
abbrev pub Words : Type 0
Words = List (List ℕ)

-- A byte that stands between words is at most 0x20.
abbrev pub is_blank : ℕ → Bool
is_blank byte = nat_le byte 32

-- There is something in the list.
abbrev pub is_filled : List ℕ → Bool
is_filled [] = false
is_filled (x ∷ xs) = true

-- An element is put in front of the first piece.
abbrev pub onto_first : ℕ → Words → Words
onto_first x [] = (x ∷ []) ∷ []
onto_first x (piece ∷ more) = (x ∷ piece) ∷ more

-- These are the pieces between the blanks, the empty ones too.
abbrev pub pieces : (ℕ → Bool) → List ℕ → Words
pieces blank [] = [] ∷ []
pieces blank (x ∷ xs) = if blank x then [] ∷ pieces blank xs else onto_first x (pieces blank xs)

-- The longest runs without a blank are the pieces that hold something.
abbrev pub runs : (ℕ → Bool) → List ℕ → Words
runs blank xs = filter is_filled (pieces blank xs)

-- The words of a text are its longest runs of bytes above 0x20.
unfoldable pub words : List ℕ → Words
words text = runs is_blank text

-- The words of a text as std's `split_whitespace` has them are the longest runs of characters that are no white space.
unfoldable pub white_words : List ℕ → Words
white_words text = map encode_utf8_all (runs is_whitespace (chars text))

-- The list is empty, or begins with a blank.
abbrev pub EndsRun : (ℕ → Bool) → List ℕ → Type 0
EndsRun blank [] = Unit {0}
EndsRun blank (x ∷ xs) = blank x ≡ true

-- Gaps of blanks and longest runs without one take turns, and a gap ends the list.
abbrev pub AreLongestRuns : (ℕ → Bool) → List ℕ → Words → Type 0
AreLongestRuns blank xs [] = AllPass blank xs
AreLongestRuns blank xs (run ∷ more) = (gap : List ℕ) × (rest : List ℕ) × (xs ≡ gap ++ (run ++ rest)) × AllPass blank gap
    × (0 < length run) × AllPass (λ x. not (blank x)) run × EndsRun blank rest × AreLongestRuns blank rest more
