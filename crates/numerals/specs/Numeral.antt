-- What a numeral is, and what digit characters stand for.
use Rattle.std.specs.Prelude.{◌≡◌, ℕ, ◌+◌, ◌*◌, ◌^◌, ◌<◌, List, [], ◌∷◌, length, map, slice_index, Bool, ⊤}
use Rattle.std.specs.Fmt.{digit_glyph, digits_onto}
use Rattle.std.specs.Char.{digit_value}
use Rattle.numerals.specs.declared.Radix.{Radix}
use Rattle.numerals.specs.declared.Radix.TheVariants.{Two, Eight, Ten, Sixteen}

-- the base that a radix stands for
abbrev pub base_of : Radix → ℕ
base_of Two = 2
base_of Eight = 8
base_of Ten = 10
base_of Sixteen = 16

-- the place values of the digits, added up
abbrev pub place_sum : ℕ → List ℕ → ℕ
place_sum b [] = 0
place_sum b (d ∷ ds) = d * b ^ length ds + place_sum b ds

-- each is a digit of the base
abbrev pub AllBelow : ℕ → List ℕ → Type 0
AllBelow b [] = ⊤
AllBelow b (d ∷ ds) = (d < b) × AllBelow b ds

-- the digits below b whose place values add up to n: at least one, and no leading zero unless it is `0` alone
pub record IsNumeral (b n : ℕ) (ds : List ℕ) : Type 0 where
  pub some : 0 < length ds
  pub below : AllBelow b ds
  pub adds_up : place_sum b ds ≡ n
  pub no_leading_zero : 1 < length ds → 0 < slice_index ds 0

-- the text is the numeral of n in base b
abbrev pub IsNumeralText : ℕ → ℕ → Bool → List ℕ → Type 0
IsNumeralText b n upper text = (ds : List ℕ) × IsNumeral b n ds × (text ≡ map (digit_glyph upper) ds)

-- the numeral of n in base b as a function, for a number of at most 128 digits
unfoldable pub numeral : ℕ → Bool → ℕ → List ℕ
numeral b upper n = digits_onto 128 b upper n []

-- one digit character or more, and nothing else
abbrev pub IsDigitText : ℕ → List ℕ → Type 0
IsDigitText b text = (0 < length text) × AllBelow b (map digit_value text)

-- what digit characters stand for
abbrev pub text_value : ℕ → List ℕ → ℕ
text_value b text = place_sum b (map digit_value text)
