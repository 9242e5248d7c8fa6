-- The scanning format that reads rows back.
use Rattle.std.specs.Prelude.{ℕ, ◌-◌, ◌==◌, Bool, true, false, if◌then◌else◌, List, [], ◌∷◌, ◌++◌, codes, Option, Some, None}
use Rattle.std.specs.List.{flat_map}
use Rattle.std.specs.Str.{byte}
use Rattle.numerals.specs.Numeral.{numeral}
use Rattle.sprintf.specs.declared.parser.ConversionType.{ConversionType}
use Rattle.sprintf.specs.declared.parser.ConversionType.TheVariants.{DecInt, OctInt, HexIntLower, HexIntUpper, Char, String}
use Rattle.values.specs.declared.kind.Kind.{Kind}
use Rattle.row_format.specs.Columns.{Column, Columns, width_of}
use Rattle.row_format.specs.Fit.{stop}
use Rattle.row_format.specs.Plannable.{is_exact}

-- A byte of literal text stands for itself; braces are doubled.
abbrev pub escaped_byte : ℕ → List ℕ
escaped_byte b = if b == byte "{" then codes "{{" else (if b == byte "}" then codes "}}" else b ∷ [])

-- Literal text with its braces doubled.
abbrev pub escaped : List ℕ → List ℕ
escaped text = flat_map escaped_byte text

-- A number's field, with its width where it is exact.
abbrev pub number_field : Bool → ℕ → List ℕ → List ℕ
number_field true width letter = codes "{" ++ numeral 10 false width ++ letter ++ codes "}"
number_field false width letter = codes "{" ++ letter ++ codes "}"

-- A word or a character is read up to the stop character, else up to white space.
abbrev pub text_field : Option ℕ → List ℕ
text_field (Some c) = codes "{}"
text_field None = codes "{s}"

-- The prefix `0X` is literal text, since a scan passes only `0x`.
abbrev pub upper_field : Bool → Bool → ℕ → List ℕ
upper_field true exact width = codes "0X" ++ number_field exact (width - 2) (codes "x")
upper_field false exact width = number_field exact width (codes "x")

-- The scanning field by the conversion.
abbrev pub field_by : ConversionType → Bool → Bool → ℕ → Option ℕ → List ℕ
field_by DecInt alternate exact width end = number_field exact width (codes "d")
field_by OctInt alternate exact width end = number_field exact width (codes "d")
field_by HexIntLower alternate exact width end = number_field exact width (codes "x")
field_by HexIntUpper alternate exact width end = upper_field alternate exact width
field_by String alternate exact width end = text_field end
field_by Char alternate exact width end = text_field end
field_by _ alternate exact width end = []

-- The scanning field of a column.
abbrev pub planned_field : Column → Kind → List ℕ
planned_field c kind = field_by c.field.conversion_type c.field.alt_form (is_exact c.field kind) (width_of c.field) (stop c)

-- The scanning format of columns: for each its field, and then the literal text behind it.
abbrev pub planned_columns : List Column → List Kind → List ℕ
planned_columns (c ∷ cs) (kind ∷ kinds) = planned_field c kind ++ (escaped c.after ++ planned_columns cs kinds)
planned_columns _ _ = []

-- The scanning format of a format.
abbrev pub planned_text : Columns → List Kind → List ℕ
planned_text format kinds = escaped format.head ++ planned_columns format.columns kinds
