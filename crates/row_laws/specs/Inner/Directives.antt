-- The directives of a planned text, and what one planned field takes.
use Rattle.std.specs.Prelude.{◌≡◌, ◌⊎◌, ℕ, ◌-◌, Bool, true, false, if◌then◌else◌, List, [], ◌∷◌, ◌++◌, codes, Option, Some, None}
use Rattle.std.specs.List.{AllByRecursion}
use Rattle.std.specs.Str.{chars, IsUtf8}
use Rattle.sprintf.specs.declared.parser.ConversionType.{ConversionType}
use Rattle.sprintf.specs.declared.parser.ConversionType.TheVariants.{DecInt, OctInt, HexIntLower, HexIntUpper}
use Rattle.scan_fmt.specs.Grammar.{is_blank, Directive, Exactly, Field, Shape, Characters, Number, Decimal, Hexadecimal, Until, Solid}
use Rattle.scan_fmt.specs.Scanned.{IsLongest, MayTake, token_text}
use Rattle.values.specs.declared.kind.Kind.{Kind}
use Rattle.values.specs.Datum.{Datum}
use Rattle.row_format.specs.Columns.{Column, Columns, width_of, field_text}
use Rattle.row_format.specs.Fit.{stop, IsFit}
use Rattle.row_format.specs.Plannable.{IsPaired, IsLossy, is_exact, trailing_spaces, BeginsTaken}
use Rattle.row_format.specs.Row.{Reads}

-- The directives of literal characters: white space has none, since a scan skips it.
abbrev pub exactly : List ℕ → List Directive
exactly [] = []
exactly (c ∷ cs) = if is_blank c then exactly cs else Exactly c ∷ exactly cs

-- The limit of an exact field.
abbrev pub limit_when : Bool → ℕ → Option ℕ
limit_when true n = Some n
limit_when false n = None

-- The shape of a word's or character's field.
abbrev pub text_shape : Option ℕ → Shape
text_shape (Some c) = Characters (Until (Some c))
text_shape None = Characters Solid

-- The limit of a hexadecimal field with uppercase digits: a prefix in front is not counted.
abbrev pub upper_limit : Bool → Bool → ℕ → Option ℕ
upper_limit alternate exact width = limit_when exact (if alternate then width - 2 else width)

-- The shape that the planned field of a column has.
abbrev pub shape_by : ConversionType → Bool → Bool → ℕ → Option ℕ → Shape
shape_by DecInt alternate exact width end = Number Decimal (limit_when exact width)
shape_by OctInt alternate exact width end = Number Decimal (limit_when exact width)
shape_by HexIntLower alternate exact width end = Number Hexadecimal (limit_when exact width)
shape_by HexIntUpper alternate exact width end = Number Hexadecimal (upper_limit alternate exact width)
shape_by _ alternate exact width end = text_shape end

abbrev pub shape_of : Column → Kind → Shape
shape_of c kind = shape_by c.field.conversion_type c.field.alt_form (is_exact c.field kind) (width_of c.field) (stop c)

-- The characters that the planned field of a column has in front: the prefix `0X`.
abbrev pub front_by : ConversionType → Bool → List ℕ
front_by HexIntUpper true = codes "0X"
front_by _ _ = []

abbrev pub front_of : Column → List ℕ
front_of c = front_by c.field.conversion_type c.field.alt_form

-- The directives of columns.
abbrev pub column_directives : List Column → List Kind → List Directive
column_directives (c ∷ cs) (kind ∷ kinds) = exactly (front_of c) ++ (Field true (shape_of c kind) ∷ (exactly (chars c.after) ++ column_directives cs kinds))
column_directives _ _ = []

-- The directives of a planned text.
abbrev pub planned_directives : Columns → List Kind → List Directive
planned_directives format kinds = exactly (chars format.head) ++ column_directives format.columns kinds

-- All are white space.
abbrev pub AllBlank : List ℕ → Type 0
AllBlank = AllByRecursion (λ c. is_blank c ≡ true)

-- The text begins with a character that isn't white space.
abbrev pub BeginsSolid : List ℕ → Type 0
BeginsSolid [] = ⊥
BeginsSolid (c ∷ cs) = is_blank c ≡ false

-- Where no taken character follows the token of a field, unless the field is exact, the planned field takes just the token: the field's text is white space, the prefix, what the shape takes, and the trailing spaces; the taken part begins with no white space and reads to the value. `more` is the text behind the field's own text.
pub record Taken (c : Column) (kind : Kind) (value : Datum) (more : List ℕ) : Type 0 where
  pub blanks : List ℕ
  pub taken : List ℕ
  pub whole : chars (field_text c.field kind value) ≡ blanks ++ (front_of c ++ (taken ++ chars (trailing_spaces (field_text c.field kind value))))
  pub only_blanks : AllBlank blanks
  pub solid : BeginsSolid (front_of c ++ taken)
  pub longest : IsLongest (MayTake (shape_of c kind)) (taken ++ (chars (trailing_spaces (field_text c.field kind value)) ++ more)) taken (chars (trailing_spaces (field_text c.field kind value)) ++ more)
  pub reads : Reads c.field.conversion_type kind (token_text (shape_of c kind) taken) value

-- One field is read back, unless its precision may cut a word.
abbrev pub FieldReads : Type 0
FieldReads = (c : Column) (kind : Kind) (value : Datum) (behind : List ℕ) → IsPaired c kind → ¬ IsLossy (c ∷ []) (kind ∷ []) → IsFit c kind value → IsUtf8 behind
    → (is_exact c.field kind ≡ true) ⊎ (¬ BeginsTaken c (trailing_spaces (field_text c.field kind value) ++ behind)) → Taken c kind value (chars behind)
