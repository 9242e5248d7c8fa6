-- Which formats can be read back: each column has its kind, no word is cut, and no field runs on.
use Rattle.std.specs.Prelude.{◌≡◌, ◌≢◌, ◌⊎◌, ℕ, ◌+◌, nat_le, not, ◌&&◌, ◌==◌, pos, Bool, true, false, if◌then◌else◌, List, [], ◌∷◌, ◌++◌, length, Some, ⊤}
use Rattle.std.specs.List.{list_all}
use Rattle.std.specs.Str.{byte, chars}
use Rattle.sprintf.specs.declared.parser.ConversionSpecifier.{ConversionSpecifier}
use Rattle.sprintf.specs.declared.parser.ConversionType.{ConversionType}
use Rattle.sprintf.specs.declared.parser.ConversionType.TheVariants.{DecInt, OctInt, HexIntLower, HexIntUpper, Char as CharConversion, String}
use Rattle.sprintf.specs.declared.parser.NumericParam.TheVariants.{Literal, FromArgument}
use Rattle.sprintf.specs.Field.{prefix_of}
use Rattle.scan_fmt.specs.Grammar.{first}
use Rattle.values.specs.declared.kind.Kind.{Kind}
use Rattle.values.specs.declared.kind.Kind.TheVariants.{U8, U16, U32, U64, Usize, I8, I16, I32, I64, Isize, Word, Char}
use Rattle.values.specs.Datum.{Datum}
use Rattle.row_format.specs.Columns.{Column, field_text, columns_text, width_of}
use Rattle.row_format.specs.Fit.{stop, Takes, AreFit}

-- Only words and characters are no numbers.
abbrev pub is_number : Kind → Bool
is_number Word = false
is_number Char = false
is_number _ = true

-- A number wants a conversion to digits, a word `%s`, and a character `%c`.
abbrev pub Converts : ConversionType → Kind → Type 0
Converts DecInt kind = is_number kind ≡ true
Converts OctInt kind = is_number kind ≡ true
Converts HexIntLower kind = is_number kind ≡ true
Converts HexIntUpper kind = is_number kind ≡ true
Converts String kind = kind ≡ Word
Converts CharConversion kind = kind ≡ Char
Converts _ kind = ⊥

-- A column and its kind go together: the conversion is one of the kind's, and neither width nor precision is `*`.
abbrev pub IsPaired : Column → Kind → Type 0
IsPaired c kind = Converts c.field.conversion_type kind × (c.field.width ≢ FromArgument) × (c.field.precision ≢ FromArgument)

-- In front stands a column that doesn't go with its kind, or a column without a kind, or a kind without a column.
abbrev pub IsUnpaired : List Column → List Kind → Type 0
IsUnpaired [] [] = ⊥
IsUnpaired [] (kind ∷ kinds) = ⊤
IsUnpaired (c ∷ cs) [] = ⊤
IsUnpaired (c ∷ cs) (kind ∷ kinds) = ¬ IsPaired c kind

-- In front stands a word that its precision may cut.
abbrev pub IsLossy : List Column → List Kind → Type 0
IsLossy (c ∷ cs) (kind ∷ kinds) = (kind ≡ Word) × (c.field.precision ≢ Literal (pos 2147483647))
IsLossy _ _ = ⊥

-- The one of four numbers that goes with the bits of a number's kind: 8, 16, 32 or 64.
abbrev pub by_bits : {A : Type 0} → A → A → A → A → Kind → A
by_bits a b c d U8 = a
by_bits a b c d U16 = b
by_bits a b c d U32 = c
by_bits a b c d U64 = d
by_bits a b c d Usize = d
by_bits a b c d I8 = a
by_bits a b c d I16 = b
by_bits a b c d I32 = c
by_bits a b c d I64 = d
by_bits a b c d Isize = d
by_bits a b c d _ = a

-- Whether the numbers of the kind have signs.
abbrev pub is_signed : Kind → Bool
is_signed I8 = true
is_signed I16 = true
is_signed I32 = true
is_signed I64 = true
is_signed Isize = true
is_signed _ = false

-- The greatest length of the digits of a kind's numbers, with their signs in decimal.
abbrev pub greatest_digits : ConversionType → Kind → ℕ
greatest_digits DecInt kind = if is_signed kind then by_bits 4 6 11 20 kind else by_bits 3 5 10 20 kind
greatest_digits OctInt kind = by_bits 3 6 11 22 kind
greatest_digits _ kind = by_bits 2 4 8 16 kind

-- The greatest length of sign, prefix and digits of a field over a kind's numbers.
abbrev pub greatest_length : ConversionSpecifier → Kind → ℕ
greatest_length f kind = length (if f.alt_form then prefix_of f.conversion_type else []) + greatest_digits f.conversion_type kind

-- A number's field is exact where zeros fill it to its width, whatever the number: it has `0`, neither `-` nor the space flag, and a width that no number passes.
abbrev pub is_exact : ConversionSpecifier → Kind → Bool
is_exact f kind = is_number kind && f.zero_pad && not f.left_adj && not f.space_sign && nat_le (greatest_length f kind) (width_of f)

-- The spaces at the end of a text.
abbrev pub trailing_spaces : List ℕ → List ℕ
trailing_spaces [] = []
trailing_spaces (c ∷ cs) = if list_all (λ x. x == byte " ") (c ∷ cs) then c ∷ cs else trailing_spaces cs

-- The text behind the token of a field: the spaces that end the field's own text, and then the text of what comes after it.
abbrev pub text_behind : Column → Kind → Datum → List Column → List Kind → List Datum → List ℕ
text_behind c kind value cs kinds values = trailing_spaces (field_text c.field kind value) ++ (c.after ++ columns_text cs kinds values)

-- The text begins with a character that the column's field takes.
abbrev pub BeginsTaken : Column → List ℕ → Type 0
BeginsTaken c text = (x : ℕ) × (first (chars text) ≡ Some x) × Takes c.field.conversion_type (stop c) x

-- The field in front runs on: it isn't exact, and over some values that fit the text behind its token begins with a character that it takes.
abbrev pub RunsOn : List Column → List Kind → Type 0
RunsOn (c ∷ cs) (kind ∷ kinds) = (is_exact c.field kind ≡ false)
    × ((value : Datum) × (values : List Datum) × AreFit (c ∷ cs) (kind ∷ kinds) (value ∷ values) × BeginsTaken c (text_behind c kind value cs kinds values))
RunsOn _ _ = ⊥

-- Nowhere in the columns and their kinds this stands in front.
abbrev pub Never : (List Column → List Kind → Type 0) → List Column → List Kind → Type 0
Never P (c ∷ cs) (kind ∷ kinds) = (¬ P (c ∷ cs) (kind ∷ kinds)) × Never P cs kinds
Never P cs kinds = ¬ P cs kinds

-- This is the first place, counted from 1, at which it stands in front.
abbrev pub FirstAt : (List Column → List Kind → Type 0) → List Column → List Kind → ℕ → Type 0
FirstAt P (c ∷ cs) (kind ∷ kinds) place = (P (c ∷ cs) (kind ∷ kinds) × (place ≡ 1))
    ⊎ ((¬ P (c ∷ cs) (kind ∷ kinds)) × ((later : ℕ) × FirstAt P cs kinds later × (place ≡ later + 1)))
FirstAt P cs kinds place = P cs kinds × (place ≡ 1)

-- The columns can be read back over these kinds.
pub record IsPlannable (columns : List Column) (kinds : List Kind) : Type 0 where
  pub paired : Never IsUnpaired columns kinds
  pub whole : Never IsLossy columns kinds
  pub apart : Never RunsOn columns kinds
