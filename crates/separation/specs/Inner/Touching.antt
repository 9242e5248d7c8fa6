-- The two halves of running on: a field that may touch what is behind it, and what is behind it that may begin with a character that it takes.
use Rattle.std.specs.Prelude.{◌≡◌, ◌≢◌, pos, List, [], ◌++◌, ⊤}
use Rattle.sprintf.specs.declared.parser.ConversionType.{ConversionType}
use Rattle.sprintf.specs.declared.parser.ConversionType.TheVariants.{DecInt, OctInt, HexIntLower, HexIntUpper, Char as CharConversion, String}
use Rattle.sprintf.specs.declared.parser.NumericParam.TheVariants.{Literal}
use Rattle.values.specs.declared.kind.Kind.{Kind}
use Rattle.values.specs.declared.kind.Kind.TheVariants.{Word}
use Rattle.values.specs.Datum.{Datum}
use Rattle.row_format.specs.Columns.{Column, field_text, columns_text}
use Rattle.row_format.specs.Fit.{IsFit, AreFit}
use Rattle.row_format.specs.Plannable.{trailing_spaces, BeginsTaken}

-- The conversion takes some character.
abbrev pub TakesSome : ConversionType → Type 0
TakesSome DecInt = ⊤
TakesSome OctInt = ⊤
TakesSome HexIntLower = ⊤
TakesSome HexIntUpper = ⊤
TakesSome CharConversion = ⊤
TakesSome String = ⊤
TakesSome _ = ⊥

-- The column cuts no word.
abbrev pub IsWhole : Column → Kind → Type 0
IsWhole c kind = (kind ≡ Word) × (c.field.precision ≢ Literal (pos 2147483647)) → ⊥

-- Some value that fits leaves no space behind its token.
abbrev pub Touches : Column → Kind → Type 0
Touches c kind = (value : Datum) × IsFit c kind value × (trailing_spaces (field_text c.field kind value) ≡ [])

-- Over some values that fit, what comes behind the column's field begins with a character that the field takes.
abbrev pub IsFollowed : Column → List Column → List Kind → Type 0
IsFollowed c cs kinds = (values : List Datum) × AreFit cs kinds values × BeginsTaken c (c.after ++ columns_text cs kinds values)
