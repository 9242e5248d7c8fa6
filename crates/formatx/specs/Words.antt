-- The words of a template: single bytes, runs of bytes, and the numbers that digits write.
use Rattle.std.specs.Prelude.{ℕ, ◌^◌, Bool, ◌&&◌, ◌||◌, not, List, length, slice_index, drop, ◌==◌, nat_lt, if◌then◌else◌, Option, Some, None}
use Rattle.std.specs.List.{prefix_len}
use Rattle.std.specs.Char.{is_ascii_alphabetic, is_ascii_alphanumeric}
use Rattle.std.specs.Str.{byte, all_ascii_digits}
use Rattle.std.specs.Str.Parse.{digits_value, without_leading_plus}

-- whether the text begins with byte c, which isn't 0
abbrev pub begins : List ℕ → ℕ → Bool
begins text c = slice_index text 0 == c

-- what follows the longest run of such bytes in front
abbrev pub after : (ℕ → Bool) → List ℕ → List ℕ
after p text = drop (prefix_len p text) text

-- a byte that is no brace
abbrev pub is_plain : ℕ → Bool
is_plain c = not (c == byte "{" || c == byte "}")

-- a byte that an identifier begins with
abbrev pub is_word_start : ℕ → Bool
is_word_start c = is_ascii_alphabetic c || c == byte "_"

-- a byte that an identifier goes on with
abbrev pub is_word : ℕ → Bool
is_word c = is_ascii_alphanumeric c || c == byte "_"

-- the number that a text writes: an optional `+` and one digit or more, below 2 ^ 64
abbrev pub usize_of : List ℕ → Option ℕ
usize_of text =
    let digits = without_leading_plus text in
    if (nat_lt 0 (length digits) && all_ascii_digits digits) && nat_lt (digits_value 10 digits) (2 ^ 64) then Some (digits_value 10 digits) else None
