-- The text of one value under a specification whose width and precision are numbers.
use Rattle.std.specs.Prelude.{ℕ, ◌+◌, ◌-◌, ◌/◌, Bool, ◌||◌, List, [], ◌++◌, length, take, drop, codes, chars, encode_utf8_all, if◌then◌else◌, is_some, Option, Some, unwrap_or}
use Rattle.std.specs.Str.{byte}
use Rattle.std.specs.Option.{option_map_or}
use Rattle.padding.specs.Field.{fills}
use Rattle.formatx.specs.Words.{begins}
use Rattle.formatx.specs.Values.{Meaning}
use Rattle.formatx.specs.declared.format.Padding.{Padding}
use Rattle.formatx.specs.declared.ast.FormatSpec.{FormatSpec}
use Rattle.formatx.specs.declared.ast.Align.{Align}
use Rattle.formatx.specs.declared.ast.Align.TheVariants.{Center, Right}
use Rattle.formatx.specs.declared.ast.Sign.{Sign}
use Rattle.formatx.specs.declared.ast.Sign.TheVariants.{Plus}
use Rattle.formatx.specs.declared.ast.FormatType.{FormatType}
use Rattle.formatx.specs.declared.ast.FormatType.TheVariants.{Debug, DebugLowerHex, DebugUpperHex}
use Rattle.formatx.specs.declared.value.Shape.{Shape}
use Rattle.formatx.specs.declared.value.Shape.TheVariants.{Integer, Text, Raw}
use Rattle.formatx.specs.declared.value.DebugStyle.TheVariants.{Plain, LowerHex, UpperHex}

-- a field's body: a sign, and what follows it
pub record Body : Type 0 where
  pub sign : List ℕ
  pub rest : List ℕ

-- the sign before a number that isn't negative: `-` has no effect
abbrev pub sign_text : Option Sign → List ℕ
sign_text (Some Plus) = codes "+"
sign_text _ = []

-- a number's sign and its digits
abbrev pub number_body : Option Sign → List ℕ → Body
number_body sign text =
    if begins text (byte "-") then record { sign = codes "-"; rest = drop 1 text } else record { sign = sign_text sign; rest = text }

-- the first characters of a text, as many as the precision allows
abbrev pub cut : Option ℕ → List ℕ → List ℕ
cut precision text = option_map_or (λ n. encode_utf8_all (take n (chars text))) precision text

-- only a number has a sign, and only a text is cut to the precision
abbrev pub body_of : Shape → Option Sign → Option ℕ → List ℕ → Body
body_of Integer sign precision text = number_body sign text
body_of Text sign precision text = record { sign = []; rest = cut precision text }
body_of Raw sign precision text = record { sign = []; rest = text }

-- how many characters a body lacks to the width
abbrev pub gap_of : Option ℕ → Body → ℕ
gap_of width body = unwrap_or width 0 - (length body.sign + length (chars body.rest))

-- a padding says how many fills stand on the left, how many zeros after the sign, and how many fills on the right.
-- The fills go by the alignment, Left where none is given; Center has the smaller half on the left
abbrev pub aligned : Option Align → ℕ → Padding
aligned (Some Right) gap = record { left = gap; zeros = 0; right = 0 }
aligned (Some Center) gap = record { left = gap / 2; zeros = 0; right = gap - gap / 2 }
aligned _ gap = record { left = 0; zeros = 0; right = gap }

-- without fill and alignment a number is padded on the left, a text on the right, and a raw text not at all
abbrev pub by_shape : Shape → Bool → ℕ → Padding
by_shape Integer zero gap = if zero then record { left = 0; zeros = gap; right = 0 } else record { left = gap; zeros = 0; right = 0 }
by_shape Text zero gap = record { left = 0; zeros = 0; right = gap }
by_shape Raw zero gap = record { left = 0; zeros = 0; right = 0 }

-- a fill or an alignment pads every shape, and without both the shape says how
abbrev pub padding_of : FormatSpec → Shape → ℕ → Padding
padding_of spec shape gap = if is_some spec.fill || is_some spec.align then aligned spec.align gap else by_shape shape spec.zero_pad gap

-- a body with its padding
abbrev pub laid_out : ℕ → Padding → Body → List ℕ
laid_out fill padding body = fills padding.left fill ++ body.sign ++ fills padding.zeros (byte "0") ++ body.rest ++ fills padding.right fill

-- a body, padded to the width
abbrev pub padded : FormatSpec → Shape → Option ℕ → Body → List ℕ
padded spec shape width body = laid_out (unwrap_or spec.fill (byte " ")) (padding_of spec shape (gap_of width body)) body

-- the text of a value under a type, and its shape; in hexadecimal it is raw
abbrev pub shown_by : FormatType → Meaning → List ℕ × Shape
shown_by Debug m = (m.debug Plain, m.debug_shape)
shown_by DebugLowerHex m = (m.debug LowerHex, Raw)
shown_by DebugUpperHex m = (m.debug UpperHex, Raw)
shown_by _ m = (m.display, m.display_shape)

-- the text of a field: sign, precision and width by the shape
abbrev pub shaped : FormatSpec → Shape → Option ℕ → Option ℕ → List ℕ → List ℕ
shaped spec shape width precision text = padded spec shape width (body_of shape spec.sign precision text)

-- the text of one value under a specification, whose type says which of the value's texts it is
abbrev pub field_text : FormatSpec → Meaning → Option ℕ → Option ℕ → List ℕ
field_text spec m width precision = shaped spec (shown_by spec.format_type m).1 width precision (shown_by spec.format_type m).0
