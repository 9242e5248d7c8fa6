-- The table of the separation rule, as the code reads it.
use Rattle.std.specs.Prelude.{ℕ, nat_lt, nat_le, ◌&&◌, ◌||◌, ◌==◌, Bool, true, false, if◌then◌else◌}
use Rattle.std.specs.Char.{digit_value}
use Rattle.std.specs.Str.{byte}
use Rattle.sprintf.specs.declared.parser.ConversionSpecifier.{ConversionSpecifier}
use Rattle.sprintf.specs.declared.parser.ConversionType.{ConversionType}
use Rattle.sprintf.specs.declared.parser.ConversionType.TheVariants.{DecInt, OctInt, HexIntLower, HexIntUpper, Char as CharConversion, String}
use Rattle.values.specs.declared.kind.Kind.{Kind}
use Rattle.values.specs.declared.kind.Kind.TheVariants.{Word, Char}
use Rattle.row_format.specs.Columns.{width_of}
use Rattle.row_format.specs.Plannable.{is_signed, greatest_length}
use Rattle.separation.specs.declared.table.Opening.{Opening}
use Rattle.separation.specs.declared.table.Opening.TheVariants.{Space, Sign, Wide, Digit, Any}

-- Some value leaves no room in the width.
abbrev pub may_fill : ConversionSpecifier → Kind → Bool
may_fill f Word = true
may_fill f Char = nat_le (width_of f) 4
may_fill f kind = nat_le (width_of f) (greatest_length f kind)

-- The conversion to decimal writes signs.
abbrev pub is_signed_decimal : ConversionType → Kind → Bool
is_signed_decimal DecInt kind = is_signed kind
is_signed_decimal _ kind = false

-- What can come first in a number's text without its padding.
abbrev pub bare_opening : ConversionSpecifier → Kind → Opening
bare_opening f kind = if is_signed_decimal f.conversion_type kind && (f.force_sign || f.space_sign) then Sign else Digit

-- What can come first in a number's text.
abbrev pub number_opening : ConversionSpecifier → Kind → Opening
number_opening f kind =
    if f.left_adj || f.zero_pad then bare_opening f kind
    else (if nat_lt (greatest_length f kind) (width_of f) then Space
    else (if (width_of f == greatest_length f kind) && is_signed_decimal f.conversion_type kind then Sign else bare_opening f kind))

-- What can come first in a character's text.
abbrev pub character_opening : ConversionSpecifier → Opening
character_opening f = if f.left_adj || nat_le (width_of f) 1 then Any else (if nat_le (width_of f) 4 then Wide else Space)

-- What can come first in the text of a field.
abbrev pub field_opening : ConversionSpecifier → Kind → Opening
field_opening f Word = Any
field_opening f Char = character_opening f
field_opening f kind = number_opening f kind

-- A field takes the first character of the literal text behind it.
abbrev pub is_taken : ConversionType → ℕ → Bool
is_taken DecInt c = nat_lt (digit_value c) 10
is_taken OctInt c = nat_lt (digit_value c) 10
is_taken HexIntLower c = nat_lt (digit_value c) 16 || (c == byte "x")
is_taken HexIntUpper c = nat_lt (digit_value c) 16 || (c == byte "x")
is_taken _ c = false

-- The conversion is that of a text.
abbrev pub is_text : ConversionType → Bool
is_text CharConversion = true
is_text String = true
is_text _ = false

-- A field that a text touches takes its first character, for some values.
abbrev pub is_opening_taken : ConversionType → Opening → Bool
is_opening_taken conversion Space = false
is_opening_taken conversion Sign = is_text conversion
is_opening_taken conversion Wide = is_text conversion
is_opening_taken conversion Digit = true
is_opening_taken conversion Any = true
