-- Expressions: how a pattern stands in a format, what `regex` reads it as, and what it finds in a text.
use Rattle.std.specs.Prelude.{◌≡◌, ℕ, Bool, false, true, ◌==◌, nat_le, if◌then◌else◌, List, [], ◌∷◌, ◌++◌, codes, encode_utf8_all, Option, None, Some, option_and_then}
use Rattle.std.specs.Option.{unwrap_or}
use Rattle.std.specs.Str.{byte}
use Rattle.regex.specs.Patterns.{Re, Match, find_str, span, default_config}
use Rattle.regex.specs.Writes.{group_of}
use Rattle.regex_syntax.specs.Grammar.{read}

-- Each slash of the text stands behind a backslash, and the text ends in none; the flag tells whether a backslash stands before the text.
abbrev pub IsUnbroken : Bool → List ℕ → Type 0
IsUnbroken escaped [] = escaped ≡ false
IsUnbroken escaped (c ∷ cs) = (c ≡ byte "/" → escaped ≡ true) × IsUnbroken (c == byte "\\") cs

-- What may stand between the slashes of a field: something, of which the first character may be any and counts as no backslash.
abbrev pub IsDelimited : List ℕ → Type 0
IsDelimited [] = ⊥
IsDelimited (c ∷ cs) = IsUnbroken false cs

-- What `regex` reads in the pattern as a group that begins where the text begins: none where it isn't in the grammar of `regex` or nests deeper than `regex` allows.
abbrev pub expression : List ℕ → Option Re
expression pattern = option_and_then (λ (re, names). if nat_le re.depth default_config.nest_limit then Some re.value else None) (read default_config (codes "^(?:" ++ (pattern ++ codes ")")))

-- The first match of the pattern over a text, by the bytes of the text.
abbrev pub found_in : List ℕ → List ℕ → Option Match
found_in text pattern = option_and_then (λ re. find_str re (encode_utf8_all text) 0) (expression pattern)

-- Where the token of a match stands: group 1 where it took part, else the whole match.
abbrev pub token_span : Match → ℕ × ℕ
token_span m = unwrap_or (group_of m 1) (span m)
