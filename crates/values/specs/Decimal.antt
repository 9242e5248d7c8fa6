-- Numbers that are written in decimal.
use Rattle.std.specs.Prelude.{◌≡◌, ◌≢◌, ◌<◌, ◌^◌, ℕ, List, Option, Some, None, false}
use Rattle.numerals.specs.Numeral.{numeral}

-- The text is the number in decimal, without a sign and without a zero in front; or it is no number below 2^64 so.
abbrev pub IsDecimal : List ℕ → Option ℕ → Type 0
IsDecimal text (Some n) = (n < 2 ^ 64) × (text ≡ numeral 10 false n)
IsDecimal text None = (n : ℕ) → n < 2 ^ 64 → text ≢ numeral 10 false n
