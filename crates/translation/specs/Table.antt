-- The table of the translation: how a printf field is written in braces, by its conversion and its row.
use Rattle.std.specs.Prelude.{ℕ, ◌+◌, ◌-◌, nat_le, not, ◌&&◌, ◌==◌, Bool, true, false, if◌then◌else◌, List, [], ◌∷◌, ◌++◌, length, codes, Option, Some, None, is_some, option_map}
use Rattle.numerals.specs.Numeral.{numeral}
use Rattle.sprintf.specs.declared.parser.ConversionSpecifier.{ConversionSpecifier}
use Rattle.sprintf.specs.declared.parser.ConversionType.{ConversionType}
use Rattle.sprintf.specs.declared.parser.ConversionType.TheVariants.{DecInt, OctInt, HexIntLower, HexIntUpper, Char as CharConversion, String}
use Rattle.sprintf.specs.Field.{prefix_of, number_of}
use Rattle.values.specs.declared.kind.Kind.{Kind}
use Rattle.values.specs.declared.kind.Kind.TheVariants.{Word, Char}
use Rattle.row_format.specs.Columns.{width_of}
use Rattle.row_format.specs.Plannable.{is_number, is_signed}
use Rattle.translation.specs.declared.row.Row.{Row}
use Rattle.translation.specs.declared.row.Row.TheVariants.{Unpadded, ToLeft, ByZeros, ToRight}
use Rattle.translation.specs.declared.target.Target.{Target}
use Rattle.translation.specs.declared.target.Target.TheVariants.{Strfmt, Formatx}

-- The row of a field: its width never pads; or it has `-`; or `0` without `-`; or none of these.
abbrev pub row_by : Bool → Bool → Bool → Row
row_by true minus zero = Unpadded
row_by false true zero = ToLeft
row_by false false true = ByZeros
row_by false false false = ToRight

-- A width never pads where it is at most the least length of what it would pad.
abbrev pub row_of : ℕ → ConversionSpecifier → Row
row_of least f = row_by (nat_le (width_of f) least) f.left_adj f.zero_pad

-- The letter p of the table is the conversion's prefix under `#`; base ten has none.
abbrev pub prefix_in : ConversionSpecifier → List ℕ
prefix_in f = if f.alt_form then prefix_of f.conversion_type else []

-- Only one conversion is in base ten.
abbrev pub is_decimal : ConversionType → Bool
is_decimal DecInt = true
is_decimal _ = false

-- The letter s is a plus, for a decimal of a signed kind under `+`.
abbrev pub sign_in : ConversionSpecifier → Kind → List ℕ
sign_in f kind = if is_decimal f.conversion_type && is_signed kind && f.force_sign then codes "+" else []

-- The letter m is the least length of a number's text: one digit, the prefix, and the sign.
abbrev pub least_length : ConversionSpecifier → Kind → ℕ
least_length f kind = 1 + length (prefix_in f) + length (sign_in f kind)

-- The letter w is the width, in decimal.
abbrev pub width_text : ConversionSpecifier → List ℕ
width_text f = numeral 10 false (width_of f)

-- The letter v is what the prefix leaves of the width, in decimal.
abbrev pub rest_text : ConversionSpecifier → List ℕ
rest_text f = numeral 10 false (width_of f - length (prefix_in f))

-- A field in braces has the number of its kind, and then options, if there are any.
abbrev pub in_braces : ℕ → List ℕ → List ℕ
in_braces i [] = codes "{" ++ numeral 10 false i ++ codes "}"
in_braces i (c ∷ cs) = codes "{" ++ numeral 10 false i ++ codes ":" ++ (c ∷ cs) ++ codes "}"

-- A text is refused where this one isn't empty.
abbrev pub refused_with : List ℕ → List ℕ → Option (List ℕ)
refused_with [] text = Some text
refused_with (c ∷ cs) text = None

-- The options of a decimal field: s is its sign and w its width.
abbrev pub decimal_options : Target → Row → List ℕ → List ℕ → Option (List ℕ)
decimal_options Formatx Unpadded s w = Some s
decimal_options Formatx ToLeft s w = Some (codes "<" ++ s ++ w)
decimal_options Formatx ByZeros s w = Some (s ++ codes "0" ++ w)
decimal_options Formatx ToRight s w = Some (codes ">" ++ s ++ w)
decimal_options Strfmt Unpadded s w = Some s
decimal_options Strfmt ToLeft s w = refused_with s (codes "<" ++ w)
decimal_options Strfmt ByZeros s w = None
decimal_options Strfmt ToRight s w = refused_with s (codes ">" ++ w)

-- A field in base 16 or 8 with the letters t of its type: p is its prefix, w its width, and v what p leaves of it.
abbrev pub based_field : Target → Row → ℕ → List ℕ → List ℕ → List ℕ → List ℕ → Option (List ℕ)
based_field Formatx Unpadded i t p w v = Some (p ++ in_braces i t)
based_field Formatx ToLeft i t p w v = Some (p ++ in_braces i (codes "<" ++ v ++ t))
based_field Formatx ByZeros i t p w v = Some (p ++ in_braces i (codes "0>" ++ v ++ t))
based_field Formatx ToRight i t p w v = refused_with p (in_braces i (codes ">" ++ w ++ t))
based_field Strfmt Unpadded i t p w v = Some (p ++ in_braces i t)
based_field Strfmt ToLeft i t p w v = Some (p ++ in_braces i (codes "<" ++ v ++ t))
based_field Strfmt ByZeros i t p w v = None
based_field Strfmt ToRight i t p w v = refused_with p (in_braces i (codes ">" ++ w ++ t))

-- The options of a word or a character: q is its precision, and `0` is no flag of it.
abbrev pub text_options : Row → List ℕ → List ℕ → List ℕ
text_options Unpadded w q = q
text_options ToLeft w q = codes "<" ++ w ++ q
text_options _ w q = codes ">" ++ w ++ q

-- A precision is written where it is another than the one that cuts nothing.
abbrev pub precision_text : Option ℕ → List ℕ
precision_text None = []
precision_text (Some q) = if q == 2147483647 then [] else codes "." ++ numeral 10 false q

-- The space flag alone, which puts a space before a number of a signed kind.
abbrev pub has_space : ConversionSpecifier → Kind → Bool
has_space f kind = is_signed kind && f.space_sign && not f.force_sign

-- A decimal field, whose sign can't be a space.
abbrev pub decimal_field : Target → ℕ → ConversionSpecifier → Kind → Option (List ℕ)
decimal_field target i f kind =
    if has_space f kind then None else option_map (in_braces i) (decimal_options target (row_of (least_length f kind) f) (sign_in f kind) (width_text f))

-- A field in base 16 or 8 with these letters.
abbrev pub lettered_field : Target → ℕ → ConversionSpecifier → Kind → List ℕ → Option (List ℕ)
lettered_field target i f kind t = based_field target (row_of (least_length f kind) f) i t (prefix_in f) (width_text f) (rest_text f)

-- A field by its conversion and the target; no other conversion has one.
abbrev pub field_by : ConversionType → Target → ℕ → ConversionSpecifier → Kind → Option (List ℕ)
field_by DecInt target i f kind = decimal_field target i f kind
field_by HexIntLower Formatx i f kind = lettered_field Formatx i f kind (codes "x?")
field_by HexIntUpper Formatx i f kind = lettered_field Formatx i f kind (codes "X?")
field_by OctInt Formatx i f kind = None
field_by HexIntLower Strfmt i f kind = lettered_field Strfmt i f kind (codes "x")
field_by HexIntUpper Strfmt i f kind = lettered_field Strfmt i f kind (codes "X")
field_by OctInt Strfmt i f kind = lettered_field Strfmt i f kind (codes "o")
field_by String target i f kind = Some (in_braces i (text_options (row_of 0 f) (width_text f) (precision_text (number_of f.precision))))
field_by CharConversion target i f kind = Some (in_braces i (text_options (row_of 1 f) (width_text f) []))
field_by _ target i f kind = None

-- The conversion is one of the kind's: a number in digits, a word by `%s`, a character by `%c`.
abbrev pub suits : ConversionType → Kind → Bool
suits DecInt kind = is_number kind
suits OctInt kind = is_number kind
suits HexIntLower kind = is_number kind
suits HexIntUpper kind = is_number kind
suits String Word = true
suits CharConversion Char = true
suits _ _ = false

-- The field goes with the kind: its conversion suits, and neither width nor precision is `*`.
abbrev pub goes_with : ConversionSpecifier → Kind → Bool
goes_with f kind = suits f.conversion_type kind && is_some (number_of f.width) && is_some (number_of f.precision)

-- The field for kind number i, which counts from 0, or none where the table refuses it.
abbrev pub translated_field : Target → ℕ → ConversionSpecifier → Kind → Option (List ℕ)
translated_field target i f kind = if goes_with f kind then field_by f.conversion_type target i f kind else None
