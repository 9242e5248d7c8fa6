-- What a text and an integer print under a specification.
use Rattle.std.specs.Prelude.{ℕ, ◌-◌, ◌/◌, List, [], ◌∷◌, ◌++◌, Bool, true, false, Option, Some, None, Ok, Err, if◌then◌else◌, ◌==◌, ◌&&◌, not, is_some, is_none, unwrap_or, take, length, chars, encode_utf8_all, codes, ℤ, unsigned_abs}
use Rattle.std.specs.Int.{Width, cast_unsigned, is_negative}
use Rattle.std.specs.Str.{byte}
use Rattle.numerals.specs.Numeral.{numeral}
use Rattle.padding.specs.Field.{fills}
use Rattle.strfmt.specs.declared.types.Alignment.{Alignment}
use Rattle.strfmt.specs.declared.types.Alignment.TheVariants.{Unspecified, Left, Center, Right, Equal}
use Rattle.strfmt.specs.declared.types.Sign.{Sign}
use Rattle.strfmt.specs.declared.cause.Cause.TheVariants.{NotOfIntegers, PrecisionOfInteger, CommaOfInteger, ZeroFillOfInteger, AlternateWithoutType, NotOfTexts, AlternateOfText, CommaOfText, SignOfText, PaddingAtEqual}
use Rattle.strfmt.specs.Fault.{fault_of, Outcome, Check, first_failure, unless}
use Rattle.strfmt.specs.Spec.{Spec, aligned, is_plus, is_unspecified, is_none_or_in}

-- n fills stand on the left and on the right of a text; at `Equal` there is no place for any.
abbrev pub shared : Alignment → ℕ → Option (ℕ × ℕ)
shared Unspecified n = Some (0, n)
shared Left n = Some (0, n)
shared Right n = Some (n, 0)
shared Center n = Some (n / 2, n - n / 2)
shared Equal n = None

-- No fills have a place everywhere.
abbrev pub sides : Alignment → ℕ → Option (ℕ × ℕ)
sides align n = if n == 0 then Some (0, 0) else shared align n

-- A front, and characters between their fills.
abbrev pub laid : List ℕ → Option (ℕ × ℕ) → ℕ → List ℕ → Outcome
laid front None fill cs = Err (fault_of PaddingAtEqual)
laid front (Some sides) fill cs = Ok (front ++ fills sides.0 fill ++ encode_utf8_all cs ++ fills sides.1 fill)

-- The characters are filled up to the width; the front doesn't count for it.
abbrev pub padded : Spec → List ℕ → List ℕ → Outcome
padded spec front cs = laid front (sides spec.align (unwrap_or spec.width 0 - length cs)) spec.fill cs

-- The precision leaves so many characters of a text.
abbrev pub cut : Option ℕ → List ℕ → List ℕ
cut None cs = cs
cut (Some precision) cs = take precision cs

-- A text under a specification, without checks.
abbrev pub unchecked_field : Spec → List ℕ → Outcome
unchecked_field spec text = padded spec [] (cut spec.precision (chars text))

-- These checks are made for a text, in this order.
abbrev pub text_checks : Spec → List Check
text_checks spec =
    record { fails = not (is_none_or_in (codes "s") spec.ty); cause = NotOfTexts (unwrap_or spec.ty 0) }
    ∷ record { fails = spec.alternate; cause = AlternateOfText }
    ∷ record { fails = spec.thousands; cause = CommaOfText }
    ∷ record { fails = not (is_unspecified spec.sign); cause = SignOfText }
    ∷ []

-- A text's field.
abbrev pub text_field : Spec → List ℕ → Outcome
text_field spec text = unless (first_failure (text_checks spec)) (unchecked_field (aligned Left spec) text)

-- An integer, as its field needs it: whether it is below 0, how far from 0, and its two's complement as a number.
pub record Integer : Type 0 where
  pub negative : Bool
  pub magnitude : ℕ
  pub bits : ℕ

-- An integer of an unsigned type.
abbrev pub unsigned : ℕ → Integer
unsigned n = record { negative = false; magnitude = n; bits = n }

-- An integer of a signed type of this width.
abbrev pub signed : Width → ℤ → Integer
signed width z = record { negative = is_negative z; magnitude = unsigned_abs z; bits = cast_unsigned width z }

-- The alignment is `Right`.
abbrev pub is_right : Alignment → Bool
is_right Right = true
is_right align = false

-- These checks are made for an integer, in this order.
abbrev pub integer_checks : Spec → List Check
integer_checks spec =
    record { fails = not (is_none_or_in (codes "boxX") spec.ty); cause = NotOfIntegers (unwrap_or spec.ty 0) }
    ∷ record { fails = is_some spec.precision; cause = PrecisionOfInteger }
    ∷ record { fails = spec.thousands; cause = CommaOfInteger }
    ∷ record { fails = spec.fill == byte "0" && is_right spec.align; cause = ZeroFillOfInteger }
    ∷ record { fails = spec.alternate && is_none spec.ty; cause = AlternateWithoutType }
    ∷ []

-- The digits are decimal with a minus, or the two's complement in base 2, 8 or 16.
abbrev pub digits_of : Option ℕ → Integer → List ℕ
digits_of None it = (if it.negative then codes "-" else []) ++ numeral 10 false it.magnitude
digits_of (Some c) it = numeral (if c == byte "b" then 2 else (if c == byte "o" then 8 else 16)) (c == byte "X") it.bits

-- A plus stands where one is asked for and the number is not below 0.
abbrev pub plus_of : Sign → Integer → List ℕ
plus_of sign it = if is_plus sign && not it.negative then codes "+" else []

-- A prefix stands in the alternate form: `0b`, `0o`, or `0x`, for `X` too.
abbrev pub prefix_of : Bool → Option ℕ → List ℕ
prefix_of false ty = []
prefix_of true ty = if unwrap_or ty 0 == byte "b" then codes "0b" else (if unwrap_or ty 0 == byte "o" then codes "0o" else codes "0x")

-- An integer under a specification, without checks: neither the plus nor the prefix counts for the width.
abbrev pub unchecked_integer_field : Spec → Integer → Outcome
unchecked_integer_field spec it = padded spec (plus_of spec.sign it ++ prefix_of spec.alternate spec.ty) (chars (digits_of spec.ty it))

-- An integer's field.
abbrev pub integer_field : Spec → Integer → Outcome
integer_field spec it = unless (first_failure (integer_checks (aligned Right spec))) (unchecked_integer_field (aligned Right spec) it)
