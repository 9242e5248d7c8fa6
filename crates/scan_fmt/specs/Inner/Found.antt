-- What an expression finds, how the parts of an input lie, and a front of a number.
use Rattle.std.specs.Prelude.{◌≡◌, ◌==◌, ◌&&◌, ℕ, Bool, if◌then◌else◌, List, ◌++◌, drop, slice_index, Option, option_map}
use Rattle.std.specs.Option.{unwrap_or}
use Rattle.std.specs.Str.{byte}
use Rattle.regex.specs.Strings.{match_span}
use Rattle.regex.specs.declared.string.matcher.Match.{Match}
use Rattle.scan_fmt.specs.Grammar.{Hexadecimal, Float}
use Rattle.scan_fmt.specs.Scanned.{IsNumber}

-- the parts are cut from the back of the input: the token, what stands behind it, and in that what is left
pub record AreParts (input token behind rest : List ℕ) : Type 0 where
  pub front : List ℕ
  pub whole : input ≡ front ++ (token ++ behind)
  pub skipped : List ℕ
  pub beyond : behind ≡ skipped ++ rest

-- a hexadecimal number, with its prefix
abbrev pub IsPrefixed : List ℕ → Type 0
IsPrefixed text = IsNumber Hexadecimal text

-- a decimal number, with its fraction and exponent
abbrev pub IsFloat : List ℕ → Type 0
IsFloat text = IsNumber Float text

-- the text without a `0x` in front
abbrev pub without_0x : List ℕ → List ℕ
without_0x text = if (slice_index text 0 == byte "0") && (slice_index text 1 == byte "x") then drop 2 text else text

-- the text begins with `0x`
abbrev pub begins_0x : List ℕ → Bool
begins_0x text = (slice_index text 0 == byte "0") && (slice_index text 1 == byte "x")

-- where the token of a match stands: the group, if there is one, else the match
abbrev pub token_of : Match → Option Match → ℕ × ℕ
token_of whole group = unwrap_or (option_map match_span group) (match_span whole)
