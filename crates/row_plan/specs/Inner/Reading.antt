-- Tokens and the values that they read to, one by one.
use denote.Bor.{Bor}
use Rattle.std.specs.Prelude.{◌≡◌, ◌≢◌, ◌↔◌, ◌≤◌, ◌++◌, ℕ, List, [], ◌∷◌, map, Option, None, Some, ⊤}
use Rattle.std.specs.Int.{w8, w16, w32, w64, cast_unsigned}
use Rattle.sprintf.specs.declared.parser.ConversionType.{ConversionType}
use Rattle.sprintf.specs.declared.parser.ConversionType.TheVariants.{DecInt, OctInt, HexIntLower, HexIntUpper}
use Rattle.values.specs.declared.kind.Kind.{Kind}
use Rattle.values.specs.declared.kind.Kind.TheVariants.{Word}
use Rattle.values.specs.declared.value.Value.{Value}
use Rattle.values.specs.Datum.{Datum, natural, integer, word, IsOfKind, kind_of, datum_of}
use Rattle.row_format.specs.Columns.{Column, Columns, row_text, width_of}
use Rattle.row_format.specs.Fit.{stop, MayStandBefore}
use Rattle.row_format.specs.Plannable.{by_bits}
use Rattle.row_format.specs.Row.{Reads, ReadsDecimal, StandsFor}
use Rattle.row_plan.specs.declared.row_value.RowValue.{RowValue}
use Rattle.row_plan.specs.declared.row_value.RowValue.TheVariants.{Word as WordOf, Other}
use Rattle.row_plan.specs.declared.error.RowError.{RowError}
use Rattle.row_plan.specs.declared.error.RowError.TheVariants.{NotARow, NoMemory}

-- No value of the kind has the property.
abbrev pub NoneIs : (Datum → Type 0) → Kind → Type 0
NoneIs P kind = (value : Datum) → IsOfKind kind value → ¬ P value

-- A value of the kind that has the property.
abbrev pub IsOne : (Datum → Type 0) → Kind → Value → Type 0
IsOne P kind v = (kind_of v ≡ kind) × IsOfKind kind (datum_of v) × P (datum_of v)

-- A value of the kind that has the property, or there is none.
abbrev pub Finds : (Datum → Type 0) → Kind → Option Value → Type 0
Finds P kind (Some v) = IsOne P kind v
Finds P kind None = NoneIs P kind

-- The kind of a value of a row.
abbrev pub kind_in : RowValue → Kind
kind_in (WordOf text) = Word
kind_in (Other value) = kind_of value

-- What a value of a row holds.
abbrev pub datum_in : RowValue → Datum
datum_in (WordOf text) = word text.now
datum_in (Other value) = datum_of value

-- The text of a format over values of a row.
abbrev pub text_in : Columns → List RowValue → List ℕ
text_in format values = row_text format (map kind_in values) (map datum_in values)

-- The same values, with words of their own.
pub record AreOwned (values : List RowValue) (owned : List Value) : Type 0 where
  pub kinds_are : map kind_of owned ≡ map kind_in values
  pub data_are : map datum_of owned ≡ map datum_in values

-- The line goes on with more behind a field's text and the literal text behind it, exactly where this is what is left of it; None where they aren't its front.
abbrev pub Continues : List ℕ → List ℕ → List ℕ → Option (Bor (List ℕ)) → Type 0
Continues line field after (Some rest) = (more : List ℕ) → (line ≡ field ++ (after ++ more)) ↔ (rest.now ≡ more)
Continues line field after None = (more : List ℕ) → line ≢ field ++ (after ++ more)

-- A value of a row, of the kind, that has the property, or there is none of the kind.
abbrev pub FindsInRow : (Datum → Type 0) → Kind → Option RowValue → Type 0
FindsInRow P kind (Some v) = (kind_in v ≡ kind) × IsOfKind kind (datum_in v) × P (datum_in v)
FindsInRow P kind None = NoneIs P kind

-- These are the bits of the number, as a number without a sign.
abbrev pub AreBits : Kind → ℕ → Datum → Type 0
AreBits kind bits (natural n) = bits ≡ n
AreBits kind bits (integer z) = bits ≡ cast_unsigned (by_bits w8 w16 w32 w64 kind) z
AreBits kind bits _ = ⊥

-- The token of a number's field reads to the value.
abbrev pub ReadsNumber : ConversionType → Kind → List ℕ → Datum → Type 0
ReadsNumber DecInt kind token value = ReadsDecimal kind token value
ReadsNumber OctInt kind token value = StandsFor 8 kind token value
ReadsNumber HexIntLower kind token value = StandsFor 16 kind token value
ReadsNumber HexIntUpper kind token value = StandsFor 16 kind token value
ReadsNumber _ kind token value = ⊥

-- The token of a column reads to the value, which may stand before the stop character.
abbrev pub ReadsFit : Column → Kind → List ℕ → Datum → Type 0
ReadsFit c kind token value = Reads c.field.conversion_type kind token value × MayStandBefore (stop c) value

-- There is one token and one value of the kind for each column, each token reads to its value, and each value fits.
abbrev pub EachFits : List Column → List Kind → List (List ℕ) → List Datum → Type 0
EachFits [] [] [] [] = ⊤
EachFits (c ∷ cs) (kind ∷ kinds) (token ∷ tokens) (value ∷ values) = IsOfKind kind value × ReadsFit c kind token value × EachFits cs kinds tokens values
EachFits _ _ _ _ = ⊥

-- No column is wider.
abbrev pub NoneWider : ℕ → List Column → Type 0
NoneWider n [] = ⊤
NoneWider n (c ∷ cs) = (width_of c.field ≤ n) × NoneWider n cs

-- The tokens read to no list of values that fit, or there was no memory.
abbrev pub ReadsNoList : List Column → List Kind → List (List ℕ) → RowError → Type 0
ReadsNoList columns kinds tokens NotARow = (values : List Datum) → ¬ EachFits columns kinds tokens values
ReadsNoList columns kinds tokens NoMemory = ⊤
