-- Which position a key names.
use Rattle.std.specs.Prelude.{◌≡◌, ℕ, List, Option, Some, None, min}
use Rattle.values.specs.Decimal.{IsDecimal}
use Rattle.printer.specs.Text.{named_from}

-- The first of two positions; either may be missing.
abbrev pub first_of : Option ℕ → Option ℕ → Option ℕ
first_of None other = other
first_of (Some place) None = Some place
first_of (Some place) (Some other) = Some (min place other)

-- The position that a key of strfmt names: the first that it is in decimal or by name.
abbrev pub IsPlaceAtKey : List (List ℕ) → List ℕ → Option ℕ → Type 0
IsPlaceAtKey names key place = (number : Option ℕ) × IsDecimal key number × (place ≡ first_of number (named_from 0 names key))
