-- The characters of a set, by what stands between its brackets.
use Rattle.std.specs.Prelude.{◌≡◌, ◌≢◌, ℕ, Bool, false, ◌||◌, ◌&&◌, ◌==◌, nat_le, if◌then◌else◌, List, [], ◌∷◌}
use Rattle.std.specs.List.{AllByRecursion}
use Rattle.std.specs.Str.{byte}

-- the text lists the character: a dash between two characters makes a range, both included; any other character stands for itself
abbrev pub is_in_ranges : List ℕ → ℕ → Bool
is_in_ranges [] c = false
is_in_ranges (a ∷ b ∷ z ∷ rest) c = if b == byte "-" then (nat_le a c && nat_le c z) || is_in_ranges rest c else (c == a) || is_in_ranges (b ∷ z ∷ rest) c
is_in_ranges (a ∷ rest) c = (c == a) || is_in_ranges rest c

-- a dash or a closing bracket that stands first is itself, and no end of a range
abbrev pub is_listed : List ℕ → ℕ → Bool
is_listed [] c = false
is_listed (a ∷ rest) c = if (a == byte "-") || (a == byte "]") then (c == a) || is_in_ranges rest c else is_in_ranges (a ∷ rest) c

-- what may stand between the brackets: something, of which only the first may be a closing bracket, and a caret in front inverts
abbrev pub IsListing : Bool → List ℕ → Type 0
IsListing inverted [] = ⊥
IsListing inverted (c ∷ cs) = (inverted ≡ false → c ≢ byte "^") × AllByRecursion (λ d. d ≢ byte "]") cs
