-- What a row is, and what the tokens of a row read to.
use Rattle.std.specs.Prelude.{◌≡◌, ◌<◌, ℕ, List, [], ◌∷◌, length, Some, ⊤}
use Rattle.std.specs.Int.{w8, w16, w32, w64, cast_unsigned}
use Rattle.std.specs.Str.{chars}
use Rattle.std.specs.Str.Parse.{ParsesUnsigned, ParsesSigned}
use Rattle.numerals.specs.Numeral.{IsDigitText, text_value}
use Rattle.sprintf.specs.declared.parser.ConversionType.{ConversionType}
use Rattle.sprintf.specs.declared.parser.ConversionType.TheVariants.{DecInt, OctInt, HexIntLower, HexIntUpper, Char, String}
use Rattle.scan_fmt.specs.Values.{ReadsBy}
use Rattle.values.specs.declared.kind.Kind.{Kind}
use Rattle.values.specs.Datum.{Datum, natural, integer, word, character, IsOfKind}
use Rattle.row_format.specs.Columns.{Column, Columns, row_text}
use Rattle.row_format.specs.Fit.{AreFit}
use Rattle.row_format.specs.Plannable.{by_bits}

-- The line is the row of these values: they fit, and it is what the format prints of them.
pub record IsRow (format : Columns) (kinds : List Kind) (line : List ℕ) (values : List Datum) : Type 0 where
  pub fit : AreFit format.columns kinds values
  pub text : line ≡ row_text format kinds values

-- The token is digits of the base, which stand for the number, or for the two's complement of a number with a sign.
abbrev pub StandsFor : ℕ → Kind → List ℕ → Datum → Type 0
StandsFor base kind token (natural n) = IsDigitText base token × (text_value base token ≡ n)
StandsFor base kind token (integer z) = IsDigitText base token × (text_value base token ≡ cast_unsigned (by_bits w8 w16 w32 w64 kind) z)
StandsFor base kind token _ = ⊥

-- The token of a decimal field reads as std reads it.
abbrev pub ReadsDecimal : Kind → List ℕ → Datum → Type 0
ReadsDecimal kind token (natural n) = ReadsBy (ParsesUnsigned (by_bits 8 16 32 64 kind) 10) token (Some n)
ReadsDecimal kind token (integer z) = ReadsBy (ParsesSigned (by_bits w8 w16 w32 w64 kind) 10) token (Some z)
ReadsDecimal kind token _ = ⊥

-- The token of a text's field is the word, which isn't empty, or the one character.
abbrev pub IsTextOf : List ℕ → Datum → Type 0
IsTextOf token (word text) = (0 < length text) × (chars text ≡ token)
IsTextOf token (character c) = token ≡ c ∷ []
IsTextOf token _ = ⊥

-- The characters of a token read to the value, by the conversion of its field.
abbrev pub Reads : ConversionType → Kind → List ℕ → Datum → Type 0
Reads DecInt kind token value = ReadsDecimal kind token value
Reads OctInt kind token value = StandsFor 8 kind token value
Reads HexIntLower kind token value = StandsFor 16 kind token value
Reads HexIntUpper kind token value = StandsFor 16 kind token value
Reads String kind token value = IsTextOf token value
Reads Char kind token value = IsTextOf token value
Reads _ kind token value = ⊥

-- There is one token and one value of the kind for each column, and each token reads to its value.
abbrev pub EachReads : List Column → List Kind → List (List ℕ) → List Datum → Type 0
EachReads [] [] [] [] = ⊤
EachReads (c ∷ cs) (kind ∷ kinds) (token ∷ tokens) (value ∷ values) =
    IsOfKind kind value × Reads c.field.conversion_type kind token value × EachReads cs kinds tokens values
EachReads _ _ _ _ = ⊥
