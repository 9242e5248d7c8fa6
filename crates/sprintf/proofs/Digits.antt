-- Digit characters: the longest run of them, and their values.
use Rattle.std.proofs.Common.{◌≡◌, ℕ, ◌<◌, true, List, [], ◌∷◌, length, map, refl, arith}
use Rattle.std.specs.Char.{is_ascii_digit, digit_value}
use Rattle.std.specs.List.{prefix_len}
use Rattle.std.proofs.lemmas.Bool.Decides.{nat_tests}
use Rattle.std.proofs.lemmas.Grind.{common_steps}
use Rattle.sprintf.proofs.Runs.{counted}
use Rattle.numerals.specs.Numeral.{AllBelow}

-- a digit character has a value below ten, and nothing else has
pub digit_below : (c : ℕ) → is_ascii_digit c ≡ true → digit_value c < 10
digit_below c h = grind (arith, nat_tests, common_steps)

pub below_digit : (c : ℕ) → digit_value c < 10 → is_ascii_digit c ≡ true
below_digit c h = grind (arith, nat_tests, common_steps)

pub all_below : (ds : List ℕ) → prefix_len is_ascii_digit ds ≡ length ds → AllBelow 10 (map digit_value ds)
all_below [] e = tt
all_below (d ∷ ds) e =
    let s : (is_ascii_digit d ≡ true) × (prefix_len is_ascii_digit ds ≡ length ds) = counted _ _ _ e in
    (digit_below d s.0, all_below ds s.1)

pub all_digits : (ds : List ℕ) → AllBelow 10 (map digit_value ds) → prefix_len is_ascii_digit ds ≡ length ds
all_digits [] h = refl
all_digits (d ∷ ds) h = rw (below_digit d h.0, all_digits ds h.1) (omega arith)
