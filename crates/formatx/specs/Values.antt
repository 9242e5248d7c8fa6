-- What the carried values mean: their texts, and the shapes that say how a text is padded.
use Rattle.std.specs.Prelude.{◌≡◌, ℕ, Bool, true, false, ◌||◌, List, [], ◌∷◌, ◌++◌, codes, chars, encode_utf8, ◌==◌, nat_lt, flat_map, ℤ, pos, negsuc, suc, if◌then◌else◌}
use Rattle.std.specs.Str.{byte}
use Rattle.std.specs.List.{zip}
use Rattle.std.specs.Map.{lookup}
use Rattle.std.specs.Option.{option_map_or}
use Rattle.numerals.specs.Numeral.{numeral}
use Rattle.formatx.specs.declared.value.Shape.{Shape}
use Rattle.formatx.specs.declared.value.Shape.TheVariants.{Integer, Text, Raw}
use Rattle.formatx.specs.declared.value.DebugStyle.{DebugStyle}
use Rattle.formatx.specs.declared.value.DebugStyle.TheVariants.{Plain, LowerHex, UpperHex}

-- a value as templates see it: a text and a shape for `{}`, and the same for each debug style
pub record Meaning : Type 0 where
  pub display : List ℕ
  pub debug : DebugStyle → List ℕ
  pub display_shape : Shape
  pub debug_shape : Shape

-- a number in decimal, with `-` where it is negative
abbrev pub decimal_of : ℤ → List ℕ
decimal_of (pos n) = numeral 10 false n
decimal_of (negsuc n) = byte "-" ∷ numeral 10 false (suc n)

-- a number in decimal, or its two's complement in hexadecimal digits
abbrev pub integer_debug : ℤ → ℕ → DebugStyle → List ℕ
integer_debug n bits Plain = decimal_of n
integer_debug n bits LowerHex = numeral 16 false bits
integer_debug n bits UpperHex = numeral 16 true bits

-- an integer and its two's complement
abbrev pub integer_meaning : ℤ → ℕ → Meaning
integer_meaning n bits = record { display = decimal_of n; debug = integer_debug n bits; display_shape = Integer; debug_shape = Integer }

-- a truth value is a text in words, the same for debugging
abbrev pub bool_meaning : Bool → Meaning
bool_meaning b =
    let text = if b then codes "true" else codes "false" in record { display = text; debug = λ _. text; display_shape = Text; debug_shape = Text }

-- a character between quotes: the quote and the backslash after a backslash, four control characters by a letter, the others by
-- their hexadecimal digits, and every other character as it is
abbrev pub escaped : ℕ → ℕ → List ℕ
escaped quote c =
    if c == quote || c == byte "\\" then byte "\\" ∷ c ∷ [] else
    option_map_or (λ letter. byte "\\" ∷ letter ∷ []) (lookup (λ k. c == k) (zip (0 ∷ 9 ∷ 13 ∷ 10 ∷ []) (codes "0trn")))
    (if nat_lt c 32 || c == 127 then codes "\\u{" ++ numeral 16 false c ++ codes "}" else encode_utf8 c)

-- a text, whose characters for debugging are escaped and stand between quotes, which are the byte given
abbrev pub text_meaning : ℕ → List ℕ → Meaning
text_meaning quote text =
    record { display = text; debug = λ _. quote ∷ flat_map (escaped quote) (chars text) ++ quote ∷ []; display_shape = Text; debug_shape = Raw }

-- a text is quoted by `"`
abbrev pub str_meaning : List ℕ → Meaning
str_meaning text = text_meaning (byte "\"") text

-- a character is quoted by `'`
abbrev pub char_meaning : ℕ → Meaning
char_meaning c = text_meaning (byte "'") (encode_utf8 c)

-- the new text begins with the old one
abbrev pub Extends : List ℕ → List ℕ → Type 0
Extends old new = (more : List ℕ) × (new ≡ old ++ more)
