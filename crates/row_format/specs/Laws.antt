-- What holds of formats that can be read back.
use Rattle.std.specs.Prelude.{◌≡◌, ◌≤◌, ℕ, List, [], ◌∷◌, length, true, pos, Ok, ⊤}
use Rattle.std.specs.Str.{chars, IsUtf8}
use Rattle.sprintf.specs.declared.parser.FormatElement.{FormatElement}
use Rattle.sprintf.specs.declared.parser.NumericParam.TheVariants.{Literal}
use Rattle.sprintf.specs.Text.{printed}
use Rattle.scan_fmt.specs.Scanned.{ScannedTexts}
use Rattle.values.specs.declared.kind.Kind.{Kind}
use Rattle.values.specs.Datum.{Datum, IsOfKind, printf_meaning, each_of}
use Rattle.row_format.specs.Columns.{Column, Columns, columns_of, field_text, row_text, width_of}
use Rattle.row_format.specs.Fit.{AreFit}
use Rattle.row_format.specs.Plannable.{IsUnpaired, IsPaired, Never, IsPlannable, is_number, greatest_length}
use Rattle.row_format.specs.Planned.{planned_text}
use Rattle.row_format.specs.Row.{IsRow, EachReads}

-- The literal text behind each field is UTF-8, and an i32 holds the field's width.
abbrev pub AreTexts : List Column → Type 0
AreTexts [] = ⊤
AreTexts (c ∷ cs) = IsUtf8 c.after × (width_of c.field ≤ 2147483647) × AreTexts cs

-- The literal texts of a format are UTF-8, and an i32 holds each width.
abbrev pub IsText : Columns → Type 0
IsText format = IsUtf8 format.head × AreTexts format.columns

-- The planned text reads each row back: over a row of values that fit, it has one token for each field, and each token reads to its value.
abbrev pub ReadsBack : Type 0
ReadsBack = (format : Columns) (kinds : List Kind) (values : List Datum) (tokens : List (List ℕ)) → IsText format → IsPlannable format.columns kinds → AreFit format.columns kinds values
    → ScannedTexts (chars (row_text format kinds values)) (chars (planned_text format kinds)) tokens → EachReads format.columns kinds tokens values

-- No text is the row of two lists of values.
abbrev pub HasOneList : Type 0
HasOneList = (format : Columns) (kinds : List Kind) (line : List ℕ) (a b : List Datum) → IsText format → IsPlannable format.columns kinds → IsRow format kinds line a → IsRow format kinds line b → a ≡ b

-- Tokens read to at most one list of values.
abbrev pub ReadsToOneList : Type 0
ReadsToOneList = (columns : List Column) (kinds : List Kind) (tokens : List (List ℕ)) (a b : List Datum) → EachReads columns kinds tokens a → EachReads columns kinds tokens b → a ≡ b

-- What elements print of values that fit, one for each field, is the text of their columns.
abbrev pub PrintsColumns : Type 0
PrintsColumns = (elements : List FormatElement) (kinds : List Kind) (values : List Datum) → Never IsUnpaired (columns_of elements).columns kinds → AreFit (columns_of elements).columns kinds values
    → printed elements (each_of printf_meaning kinds values) ≡ Ok (row_text (columns_of elements) kinds values)

-- The table of greatest lengths is right: without a width, the text of each number of the kind is at most that long, and that of some number is.
abbrev pub TableIsRight : Type 0
TableIsRight = (c : Column) (kind : Kind) → IsPaired c kind → is_number kind ≡ true
    → let bare = record c.field { width = Literal (pos 0) } in
    ((value : Datum) → IsOfKind kind value → length (field_text bare kind value) ≤ greatest_length c.field kind)
    × ((value : Datum) × IsOfKind kind value × (length (field_text bare kind value) ≡ greatest_length c.field kind))
