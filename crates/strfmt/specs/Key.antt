-- Keys that are read from the text of a pattern.
use Rattle.std.specs.Prelude.{◌≡◌, ℕ, ◌^◌, ◌-◌, List, Bool, false, Option, Some, None, ◌==◌, ◌&&◌, nat_lt, length, ℤ, pos, negsuc}
use Rattle.std.specs.List.{list_all}
use Rattle.std.specs.Ordering.{int_eq}
use Rattle.std.specs.Char.{digit_value}
use Rattle.std.specs.Str.Parse.{digits_value, signed_digits_value, without_leading_plus, without_leading_sign}

-- one decimal digit or more, and nothing else
abbrev pub is_decimal : List ℕ → Bool
is_decimal digits = nat_lt 0 (length digits) && list_all (λ c. nat_lt (digit_value c) 10) digits

-- the text writes the number of so many bits in decimal; a plus may stand in front
abbrev pub spells_unsigned : ℕ → List ℕ → ℕ → Bool
spells_unsigned bits text n = is_decimal (without_leading_plus text) && (digits_value 10 (without_leading_plus text) == n && nat_lt n (2 ^ bits))

-- the number has two's complement in so many bits
abbrev pub is_within : ℕ → ℤ → Bool
is_within bits (pos n) = nat_lt n (2 ^ (bits - 1))
is_within bits (negsuc n) = nat_lt n (2 ^ (bits - 1))

-- the same of a signed number; a plus or a minus may stand in front
abbrev pub spells_signed : ℕ → List ℕ → ℤ → Bool
spells_signed bits text z = is_decimal (without_leading_sign text) && (int_eq (signed_digits_value 10 text) z && is_within bits z)

module _ {K : Type 0} (eq : K → K → Bool) (spells : K → Bool) where
  -- the key that is spelled, of which there is one at most by `==`, or none
  abbrev pub IsKey : Option K → Type 0
  IsKey None = (other : K) → spells other ≡ false
  IsKey (Some key) = (other : K) → eq key other ≡ spells other
