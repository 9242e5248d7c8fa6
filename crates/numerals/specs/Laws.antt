-- What holds of each number's numeral.
use Rattle.std.specs.Prelude.{◌≡◌, ◌≢◌, ◌↔◌, ◌⊎◌, ℕ, ◌^◌, ◌<◌, ◌≤◌, List, [], ◌∷◌, length, slice_index, Bool, true, false, ⊤}
use Rattle.std.specs.Fmt.{digits}
use Rattle.numerals.specs.Numeral.{IsNumeralText, numeral, IsDigitText, text_value}

-- exactly one text is the numeral of a number below 2 ^ 128, and it is the one that the function `numeral` gives
abbrev pub OneNumeral : Type 0
OneNumeral = (b n : ℕ) (upper : Bool) (text : List ℕ) → 2 ≤ b → n < 2 ^ 128 → IsNumeralText b n upper text ↔ (text ≡ numeral b upper n)

-- it is std's text of a number that fits 64 bits
abbrev pub NumeralIsStd : Type 0
NumeralIsStd = (b n : ℕ) (upper : Bool) → 2 ≤ b → n < 2 ^ 64 → numeral b upper n ≡ digits b upper n

-- a greater number has no shorter numeral
abbrev pub LongerNumeral : Type 0
LongerNumeral = (b m n : ℕ) (upper : Bool) → 2 ≤ b → m ≤ n → n < 2 ^ 128 → length (numeral b upper m) ≤ length (numeral b upper n)

-- a numeral is a text of digits, and stands for its number
abbrev pub NumeralReadsBack : Type 0
NumeralReadsBack = (b n : ℕ) (upper : Bool) → 2 ≤ b → b ≤ 16 → n < 2 ^ 128 → IsDigitText b (numeral b upper n) × (text_value b (numeral b upper n) ≡ n)

-- the character is no letter of the other case
abbrev pub IsOfCase : Bool → ℕ → Type 0
IsOfCase true c = (c < 97) ⊎ (122 < c)
IsOfCase false c = (c < 65) ⊎ (90 < c)

-- no letter of the text is of the other case
abbrev pub AllOfCase : Bool → List ℕ → Type 0
AllOfCase upper [] = ⊤
AllOfCase upper (c ∷ cs) = IsOfCase upper c × AllOfCase upper cs

-- the text does not begin with `0`, unless it is `0` alone
abbrev pub HasNoLeadingZero : List ℕ → Type 0
HasNoLeadingZero text = 1 < length text → slice_index text 0 ≢ 48

-- digits in one case of letters without a leading zero are the numeral of what they stand for
abbrev pub NumeralOfValue : Type 0
NumeralOfValue = (b : ℕ) (upper : Bool) (text : List ℕ) → 2 ≤ b → b ≤ 16 → IsDigitText b text → AllOfCase upper text → HasNoLeadingZero text → text_value b text < 2 ^ 128 → text ≡ numeral b upper (text_value b text)
