-- The grammar of printf formats: which elements a text spells.
use Rattle.std.specs.Prelude.{◌≡◌, ◌≢◌, ℕ, ◌≤◌, ◌<◌, ◌⊎◌, ◌||◌, ◌==◌, pos, Bool, true, List, [], ◌∷◌, ◌++◌, length, All, Contains, codes, slice_index, ⊤}
use Rattle.std.specs.List.{concat, list_any, AllPass, AllZip}
use Rattle.std.specs.Str.{byte}
use Rattle.numerals.specs.Numeral.{IsDigitText, text_value}
use Rattle.sprintf.specs.declared.parser.ConversionSpecifier.{ConversionSpecifier}
use Rattle.sprintf.specs.declared.parser.ConversionType.{ConversionType}
use Rattle.sprintf.specs.declared.parser.ConversionType.TheVariants.{DecInt, OctInt, HexIntLower, HexIntUpper, SciFloatLower, SciFloatUpper, DecFloatLower, DecFloatUpper, CompactFloatLower, CompactFloatUpper, Char, String, PercentSign}
use Rattle.sprintf.specs.declared.parser.FormatElement.{FormatElement}
use Rattle.sprintf.specs.declared.parser.FormatElement.TheVariants.{Verbatim, Format}
use Rattle.sprintf.specs.declared.parser.NumericParam.{NumericParam}
use Rattle.sprintf.specs.declared.parser.NumericParam.TheVariants.{Literal, FromArgument}

-- whether the character is one of these
abbrev pub has : List ℕ → ℕ → Bool
has characters c = list_any (λ x. x == c) characters

-- the flags
abbrev pub is_flag : ℕ → Bool
is_flag c = has (codes "#0- +") c

-- the decimal digits state the number, which is at most the greatest i32
pub record IsCount (digits : List ℕ) (n : ℕ) : Type 0 where
  pub only_digits : IsDigitText 10 digits
  pub value : text_value 10 digits ≡ n
  pub limit : n ≤ 2147483647

-- a width: nothing, which counts as 0, or `*`, or digits of which the first isn't `0`, since that one is a flag
pub data IsWidth : List ℕ → NumericParam → Type 0 where
  no_width : IsWidth [] (Literal (pos 0))
  star_width : IsWidth (codes "*") FromArgument
  digits_width : {digits : List ℕ} {n : ℕ} → IsCount digits n → slice_index digits 0 ≢ byte "0" → IsWidth digits (Literal (pos n))

-- the precision of a field that writes none: no limit for a text, and 6 for all else
abbrev pub default_precision : ConversionType → ℕ
default_precision String = 2147483647
default_precision _ = 6

-- a precision: nothing, or `.`, which counts as 0, or `.*`, or `.` and digits
pub data IsPrecision (conversion : ConversionType) : List ℕ → NumericParam → Type 0 where
  no_precision : IsPrecision conversion [] (Literal (pos (default_precision conversion)))
  bare_precision : IsPrecision conversion (codes ".") (Literal (pos 0))
  star_precision : IsPrecision conversion (codes ".*") FromArgument
  digits_precision : {digits : List ℕ} {n : ℕ} → IsCount digits n → IsPrecision conversion (byte "." ∷ digits) (Literal (pos n))

-- the length modifiers, which change nothing; a field has at most one
abbrev pub length_modifiers : List (List ℕ)
length_modifiers = codes "hh" ∷ codes "h" ∷ codes "ll" ∷ codes "l" ∷ codes "q" ∷ codes "L" ∷ codes "j" ∷ codes "z" ∷ codes "Z" ∷ codes "t" ∷ []

-- the characters that stand for a conversion
abbrev pub letters_of : ConversionType → List ℕ
letters_of DecInt = codes "diu"
letters_of OctInt = codes "o"
letters_of HexIntLower = codes "xp"
letters_of HexIntUpper = codes "X"
letters_of SciFloatLower = codes "e"
letters_of SciFloatUpper = codes "E"
letters_of DecFloatLower = codes "f"
letters_of DecFloatUpper = codes "F"
letters_of CompactFloatLower = codes "g"
letters_of CompactFloatUpper = codes "G"
letters_of Char = codes "cC"
letters_of String = codes "sS"
letters_of PercentSign = codes "%"

-- the text spells the field: `%`, flags, width, precision, length modifier and the conversion's character
pub record IsField (text : List ℕ) (f : ConversionSpecifier) : Type 0 where
  pub flags : List ℕ
  pub width : List ℕ
  pub precision : List ℕ
  pub modifier : List ℕ
  pub letter : ℕ
  pub whole : text ≡ codes "%" ++ flags ++ width ++ precision ++ modifier ++ letter ∷ []
  pub only_flags : AllPass is_flag flags
  pub alt_form : f.alt_form ≡ (has flags (byte "#") || (letter == byte "p"))
  pub zero_pad : f.zero_pad ≡ has flags (byte "0")
  pub left_adj : f.left_adj ≡ has flags (byte "-")
  pub space_sign : f.space_sign ≡ has flags (byte " ")
  pub force_sign : f.force_sign ≡ has flags (byte "+")
  pub is_width : IsWidth width f.width
  pub is_precision : IsPrecision f.conversion_type precision f.precision
  pub is_modifier : (modifier ≡ []) ⊎ Contains length_modifiers modifier
  pub is_letter : has (letters_of f.conversion_type) letter ≡ true

-- the text spells the element; a literal run is nonempty and has no `%`
abbrev pub Spells : FormatElement → List ℕ → Type 0
Spells (Verbatim s) text = (s.now ≡ text) × (0 < length text) × All (λ c. c ≢ byte "%") text
Spells (Format f) text = IsField text f

-- no two literal runs stand side by side
abbrev pub AreApart : List FormatElement → Type 0
AreApart [] = ⊤
AreApart (Format f ∷ es) = AreApart es
AreApart (Verbatim s ∷ []) = ⊤
AreApart (Verbatim s ∷ Format f ∷ es) = AreApart es
AreApart (Verbatim s ∷ Verbatim t ∷ es) = ⊥

-- the text is the format of these elements: one spelling of each, end to end
pub record IsFormat (text : List ℕ) (elements : List FormatElement) : Type 0 where
  pub spellings : List (List ℕ)
  pub whole : text ≡ concat spellings
  pub each : AllZip Spells elements spellings
  pub apart : AreApart elements

-- the text is outside the grammar
abbrev pub IsNoFormat : List ℕ → Type 0
IsNoFormat text = (elements : List FormatElement) → IsFormat text elements → ⊥

-- two elements say the same, wherever their texts are kept
abbrev pub IsSameElement : FormatElement → FormatElement → Type 0
IsSameElement (Verbatim s) (Verbatim t) = s.now ≡ t.now
IsSameElement (Verbatim s) (Format g) = ⊥
IsSameElement (Format f) (Verbatim t) = ⊥
IsSameElement (Format f) (Format g) = f ≡ g
