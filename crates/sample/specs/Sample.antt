-- The bytes of the sample: four header lines, and rows that follow from their numbers alone.
use Rattle.std.specs.Prelude.{ℕ, ◌-◌, ◌*◌, ◌^◌, ◌%◌, ◌==◌, zero, suc, false, if◌then◌else◌, List, [], ◌++◌, length, codes}
use Rattle.std.specs.Str.{byte}
use Rattle.numerals.specs.Numeral.{numeral}
use Rattle.padding.specs.Field.{fills}

-- The header lines: the kinds, the format of the rows, the dialect and the template.
abbrev pub headers : List ℕ
headers = codes "u32 i64 word\n%08x %+d %s\nformatx\n{2} {0} {1}\n"

-- Digits behind zeros, eight in all.
abbrev pub eight_digits : List ℕ → List ℕ
eight_digits digits = fills (8 - length digits) (byte "0") ++ digits

-- The sign of a number that is negated where the row's number is odd.
abbrev pub sign : ℕ → List ℕ
sign k = if k % 2 == 0 then codes "+" else codes "-"

-- The first field of the row of a number k: k * 2654435761 modulo 2 ^ 32, in hexadecimal digits.
abbrev pub first_field : ℕ → List ℕ
first_field k = eight_digits (numeral 16 false ((k * 2654435761) % (2 ^ 32)))

-- The second field: k * 1000003 with its sign.
abbrev pub second_field : ℕ → List ℕ
second_field k = sign k ++ numeral 10 false (k * 1000003)

-- The third field: `w` and k.
abbrev pub third_field : ℕ → List ℕ
third_field k = codes "w" ++ numeral 10 false k

-- The row of a number: the fields with spaces between them, and a line feed.
abbrev pub row : ℕ → List ℕ
row k = first_field k ++ codes " " ++ second_field k ++ codes " " ++ third_field k ++ codes "\n"

-- The rows of the numbers below n.
abbrev pub rows : ℕ → List ℕ
rows zero = []
rows (suc k) = rows k ++ row k

-- The bytes of a sample of n rows.
abbrev pub sample_bytes : ℕ → List ℕ
sample_bytes n = headers ++ rows n
