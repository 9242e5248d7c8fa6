-- What the text of a field may be.
use Rattle.std.specs.Prelude.{◌≡◌, ◌≢◌, ◌⊎◌, ◌<◌, ◌≤◌, ◌+◌, ◌++◌, ℕ, List, [], ◌∷◌, length, Bool, true, false, codes, IsUtf8}
use Rattle.std.specs.Str.{byte}
use Rattle.std.specs.Str.Parse.{AllDigits, digits_value}
use Rattle.std.specs.List.{AllByRecursion}
use Rattle.scan_fmt.specs.Grammar.{is_blank}
use Rattle.std.specs.Char.{digit_value}
use Rattle.numerals.specs.Laws.{HasNoLeadingZero, IsOfCase, AllOfCase}
use Rattle.columns.specs.declared.hexadecimal.Form.{Form}
use Rattle.columns.specs.declared.hexadecimal.Notation.{Notation}
use Rattle.columns.specs.declared.hexadecimal.Notation.TheVariants.{Octal, Lower, Upper}
use Rattle.columns.specs.declared.take.Take.{Take}
use Rattle.columns.specs.declared.take.Take.TheVariants.{Natural, Filled, Integer, Bits, Word}

-- The byte is a digit of the base, no letter of the other case, and stands for the number.
pub record IsDigit (base : ℕ) (upper : Bool) (c number : ℕ) : Type 0 where
  pub small : number < base
  pub letter : IsOfCase upper c
  pub value : digit_value c ≡ number

-- Digits in the base, without letters of the other case, that stand for the number.
pub record AreDigits (base : ℕ) (upper : Bool) (text : List ℕ) (number : ℕ) : Type 0 where
  pub digits : AllDigits base text
  pub letters : AllOfCase upper text
  pub value : digits_value base text ≡ number

-- At least one digit, no zero in front of others, and the number that they stand for.
pub record IsNatural (base : ℕ) (upper : Bool) (text : List ℕ) (number : ℕ) : Type 0 where
  pub some : 0 < length text
  pub lead : HasNoLeadingZero text
  pub digits : AreDigits base upper text number

-- At least so many digits and at least one, no zero in front of others where there are more, and the number that they stand for.
pub record IsFilled (base : ℕ) (upper : Bool) (width : ℕ) (text : List ℕ) (number : ℕ) : Type 0 where
  pub some : 0 < length text
  pub wide : width ≤ length text
  pub lead : width < length text → HasNoLeadingZero text
  pub digits : AreDigits base upper text number

-- A number's text in decimal stands in front.
pub record IsNaturalInFront (text : List ℕ) (number : ℕ) (rest : List ℕ) : Type 0 where
  pub token : List ℕ
  pub whole : text ≡ token ++ rest
  pub shape : IsNatural 10 false token number

-- A minus sign and the digits of a number that is not 0, and its complement in 64 bits.
pub record IsNegative (greatest : ℕ) (text : List ℕ) (number : ℕ) : Type 0 where
  pub digits : List ℕ
  pub size : ℕ
  pub whole : text ≡ byte "-" ∷ digits
  pub natural : IsNatural 10 false digits size
  pub some : 0 < size
  pub small : size ≤ greatest + 1
  pub complement : number + size ≡ 18446744073709551616

-- The sign in front of numbers that are not negative, where one is printed.
abbrev pub plus_sign : Bool → List ℕ
plus_sign true = codes "+"
plus_sign false = []

-- That sign, and the digits of the number.
pub record IsPositive (greatest : ℕ) (sign text : List ℕ) (number : ℕ) : Type 0 where
  pub digits : List ℕ
  pub whole : text ≡ sign ++ digits
  pub natural : IsNatural 10 false digits number
  pub small : number ≤ greatest

-- The base of a notation.
abbrev pub base_of : Notation → ℕ
base_of Octal = 8
base_of Lower = 16
base_of Upper = 16

-- Whether the letters of a notation are capitals.
abbrev pub is_upper : Notation → Bool
is_upper Octal = false
is_upper Lower = false
is_upper Upper = true

-- The first of the letters that are digits in hexadecimal: `a` of the small ones, `A` of the capitals.
abbrev pub first_letter : Bool → ℕ
first_letter false = 97
first_letter true = 65

-- As many digits of a notation as 64 bits hold, whatever they are.
abbrev pub safe_digits : Notation → ℕ
safe_digits Octal = 21
safe_digits Lower = 16
safe_digits Upper = 16

-- What stands in front of the digits, where a prefix is printed.
abbrev pub prefix_in : Notation → Bool → List ℕ
prefix_in notation false = []
prefix_in Octal true = codes "0"
prefix_in Lower true = codes "0x"
prefix_in Upper true = codes "0X"

-- At least so many digits stand in front.
pub record IsFilledInFront (notation : Notation) (width : ℕ) (text : List ℕ) (number : ℕ) (rest : List ℕ) : Type 0 where
  pub token : List ℕ
  pub whole : text ≡ token ++ rest
  pub shape : IsFilled (base_of notation) (is_upper notation) width token number

-- The number in 64 bits whose bits in fewer these are: behind the middle they are those of a negative number, which has ones in front.
pub record IsWidened (greatest middle bits number : ℕ) : Type 0 where
  pub small : bits ≤ greatest
  pub same : bits ≤ middle → number ≡ bits
  pub ones : middle < bits → number + greatest ≡ bits + 18446744073709551615

-- The prefix, where one is printed, and the digits of a number's bits.
pub record IsOfForm (form : Form) (text : List ℕ) (number : ℕ) : Type 0 where
  pub digits : List ℕ
  pub bits : ℕ
  pub whole : text ≡ prefix_in form.notation form.prefix ++ digits
  pub filled : IsFilled (base_of form.notation) (is_upper form.notation) form.width digits bits
  pub wide : IsWidened form.greatest form.middle bits number

-- A byte that is neither white space nor the stop character.
abbrev pub IsWordByte : ℕ → ℕ → Type 0
IsWordByte stop c = (is_blank c ≡ false) × (c ≢ stop)

-- A word that is not empty and that a format prints whole, without white space and the stop character.
pub record IsWord (stop : ℕ) (text : List ℕ) : Type 0 where
  pub some : 0 < length text
  pub few : length text ≤ 2147483647
  pub utf8 : IsUtf8 text
  pub bytes : AllByRecursion (IsWordByte stop) text

-- The text and the number that a field may take.
abbrev pub Shape : Take → List ℕ → ℕ → Type 0
Shape (Natural greatest) text number = IsNatural 10 false text number × (number ≤ greatest)
Shape (Filled greatest width most) text number = IsFilled 10 false width text number × (number ≤ greatest)
Shape (Integer greatest plus) text number = IsNegative greatest text number ⊎ IsPositive greatest (plus_sign plus) text number
Shape (Bits form) text number = IsOfForm form text number
Shape (Word stop) text number = (number ≡ 0) × IsWord stop text

-- A text that the field may take stands in front.
pub record IsTaken (take : Take) (text : List ℕ) (number : ℕ) (rest : List ℕ) : Type 0 where
  pub token : List ℕ
  pub whole : text ≡ token ++ rest
  pub shape : Shape take token number
