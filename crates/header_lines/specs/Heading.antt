-- The lines in front of the format: kinds alone in version 1; `#2`, kinds and names in version 2.
use Rattle.std.specs.Prelude.{◌≡◌, ◌⊎◌, ◌||◌, ◌==◌, ◌+◌, ℕ, true, Bool, List, [], ◌∷◌, length, codes, bytes_eq}
use Rattle.std.specs.Char.{is_ascii_alphabetic, is_ascii_alphanumeric}
use Rattle.std.specs.List.{AllByRecursion, AllPass, IsDistinct}
use Rattle.std.specs.Str.{byte}
use Rattle.whiteread.specs.Words.{words}
use Rattle.values.specs.declared.kind.Kind.{Kind}
use Rattle.header_lines.specs.Headers.{IsKindsLine}
use Rattle.header_lines.specs.declared.cause.LineCause.{LineCause}
use Rattle.header_lines.specs.declared.cause.LineCause.TheVariants.{Header}
use Rattle.header_lines.specs.declared.heading.Version.{Version}
use Rattle.header_lines.specs.declared.heading.Version.TheVariants.{First, Second}

-- The first line of version 2 is the one word `#2`.
abbrev pub IsSecondVersion : List ℕ → Type 0
IsSecondVersion line = words line ≡ codes "#2" ∷ []

-- A byte that may stand in a name: an ASCII letter, a digit or `_`.
abbrev pub is_name_byte : ℕ → Bool
is_name_byte b = is_ascii_alphanumeric b || b == byte "_"

-- A name is an ASCII letter or `_`, and then letters, digits and `_`.
abbrev pub IsName : List ℕ → Type 0
IsName [] = ⊥
IsName (first ∷ more) = (is_ascii_alphabetic first || first == byte "_" ≡ true) × AllPass is_name_byte more

-- A names line for kinds: as many names as kinds, all different.
pub record IsNamesLine (kinds : List Kind) (line : List ℕ) : Type 0 where
  pub named : AllByRecursion IsName (words line)
  pub distinct : IsDistinct bytes_eq (words line)
  pub as_many : length (words line) ≡ length kinds

-- What the lines in front of the format say: the version, the kinds of the fields, and their names, of which version 1 has none.
pub record Fields : Type 0 where
  pub version : Version
  pub kinds : List Kind
  pub names : List (List ℕ)

-- These lines in front of the format say this.
abbrev pub AreHeading : List (List ℕ) → Fields → Type 0
AreHeading lines fields = ((kinds_line : List ℕ) × (lines ≡ kinds_line ∷ []) × IsKindsLine kinds_line fields.kinds × (fields.names ≡ []) × (fields.version ≡ First))
    ⊎ ((version_line : List ℕ) × (kinds_line : List ℕ) × (names_line : List ℕ) × (lines ≡ version_line ∷ kinds_line ∷ names_line ∷ []) × IsSecondVersion version_line
    × IsKindsLine kinds_line fields.kinds × IsNamesLine fields.kinds names_line × (fields.names ≡ words names_line) × (fields.version ≡ Second))

-- Which line in front of the format comes next: the first of all; the kinds of version 2; the names of fields of these kinds.
pub data Heading : Type 0 where
  first_next : Heading
  kinds_next : Heading
  names_next : List Kind → Heading

-- What comes after a line in front of the format: another such line, or the format.
pub data Headed : Type 0 where
  more : Heading → Headed
  format_next : Fields → Headed

-- The first line is `#2`, or holds the kinds of version 1; then come the kinds, and then the names.
abbrev pub KeepsHeading : Heading → List ℕ → Headed → Type 0
KeepsHeading first_next line headed = (IsSecondVersion line × (headed ≡ more kinds_next))
    ⊎ ((kinds : List Kind) × IsKindsLine line kinds × (headed ≡ format_next (record { version = First; kinds = kinds; names = [] })))
KeepsHeading kinds_next line headed = (kinds : List Kind) × IsKindsLine line kinds × (headed ≡ more (names_next kinds))
KeepsHeading (names_next kinds) line headed = IsNamesLine kinds line × (headed ≡ format_next (record { version = Second; kinds = kinds; names = words line }))

-- A line in front of the format is refused where its rule doesn't keep it.
abbrev pub RefusesHeading : Heading → ℕ → List ℕ → LineCause → Type 0
RefusesHeading heading number line why = ((headed : Headed) → ¬ KeepsHeading heading line headed) × (why ≡ Header number)

-- The number of the line that comes next in front of the format.
abbrev pub heading_number : Heading → ℕ
heading_number first_next = 1
heading_number kinds_next = 2
heading_number (names_next kinds) = 3

-- The number of a line behind the heading, by its number in version 1.
abbrev pub number_in : Version → ℕ → ℕ
number_in First number = number
number_in Second number = number + 2
