-- How a specification is written: its parts stand end to end, each there wherever it can be.
use Rattle.std.specs.Prelude.{◌≡◌, ◌≢◌, ℕ, List, [], ◌∷◌, ◌++◌, Bool, true, false, Option, Some, None, if◌then◌else◌, ◌==◌, slice_index, encode_utf8}
use Rattle.std.specs.Char.{is_ascii_digit}
use Rattle.std.specs.Str.{byte, all_ascii_digits}
use Rattle.std.specs.Str.Parse.{digits_value}
use Rattle.strfmt.specs.declared.types.Alignment.{Alignment}
use Rattle.strfmt.specs.declared.types.Alignment.TheVariants.{Left, Center, Right, Equal}
use Rattle.strfmt.specs.declared.types.Sign.{Sign}
use Rattle.strfmt.specs.declared.types.Sign.TheVariants.{Plus, Minus, Space}

-- These bytes stand for an alignment.
abbrev pub alignment_of : ℕ → Option Alignment
alignment_of b =
    if b == byte "<" then Some Left
    else (if b == byte "^" then Some Center
    else (if b == byte ">" then Some Right
    else (if b == byte "=" then Some Equal
    else None)))

-- These bytes stand for a sign.
abbrev pub sign_of : ℕ → Option Sign
sign_of b =
    if b == byte " " then Some Space
    else (if b == byte "-" then Some Minus
    else (if b == byte "+" then Some Plus
    else None))

-- A byte that stands for something is in front of the rest, or none is; an empty text has the byte 0 in front.
abbrev pub IsMark : {A : Type 0} → (ℕ → Option A) → List ℕ → Option A → List ℕ → Type 0
IsMark meaning text (Some value) rest = (b : ℕ) × (meaning b ≡ Some value) × (text ≡ b ∷ rest)
IsMark meaning text None rest = (meaning (slice_index text 0) ≡ None) × (text ≡ rest)

-- The byte b is in front of the rest, or it is not in front.
abbrev pub IsFlag : ℕ → List ℕ → Bool → List ℕ → Type 0
IsFlag b text true rest = text ≡ b ∷ rest
IsFlag b text false rest = (slice_index text 0 ≢ b) × (text ≡ rest)

-- No character in front has an alignment after it.
abbrev pub HasNoFill : List ℕ → Type 0
HasNoFill text = (c : ℕ) (after : List ℕ) → text ≡ encode_utf8 c ++ after → alignment_of (slice_index after 0) ≡ None

-- A fill is a character with an alignment after it; without a fill, an alignment may stand alone.
abbrev pub IsFilled : List ℕ → Option ℕ → Option Alignment → List ℕ → Type 0
IsFilled text (Some fill) align rest = (after : List ℕ) × (text ≡ encode_utf8 fill ++ after) × (align ≢ None) × IsMark alignment_of after align rest
IsFilled text None align rest = HasNoFill text × IsMark alignment_of text align rest

-- A zero can only be where no fill is.
abbrev pub IsZero : Option ℕ → List ℕ → Bool → List ℕ → Type 0
IsZero None text zero rest = IsFlag (byte "0") text zero rest
IsZero (Some fill) text zero rest = (zero ≡ false) × (text ≡ rest)

-- Decimal digits write a number, no digits none.
abbrev pub number_of : List ℕ → Option ℕ
number_of [] = None
number_of (digit ∷ digits) = Some (digits_value 10 (digit ∷ digits))

-- As many digits as there are stand in front of the rest.
abbrev pub IsNumber : List ℕ → Option ℕ → List ℕ → Type 0
IsNumber text number rest = (digits : List ℕ) × (all_ascii_digits digits ≡ true) × (is_ascii_digit (slice_index rest 0) ≡ false) × (number ≡ number_of digits) × (text ≡ digits ++ rest)

-- A precision can only be after a dot.
abbrev pub IsPrecision : Bool → List ℕ → Option ℕ → List ℕ → Type 0
IsPrecision true text number rest = IsNumber text number rest
IsPrecision false text number rest = (number ≡ None) × (text ≡ rest)

-- The parts, and the bytes that are left after them.
pub record Parts : Type 0 where
  pub fill : Option ℕ
  pub align : Option Alignment
  pub sign : Option Sign
  pub alternate : Bool
  pub zero : Bool
  pub width : Option ℕ
  pub thousands : Bool
  pub dot : Bool
  pub precision : Option ℕ
  pub left : List ℕ

-- The text is these parts in this order.
abbrev pub IsWritten : List ℕ → Parts → Type 0
IsWritten text parts =
    (t u v w x y z : List ℕ)
    × IsFilled text parts.fill parts.align t
    × IsMark sign_of t parts.sign u
    × IsFlag (byte "#") u parts.alternate v
    × IsZero parts.fill v parts.zero w
    × IsNumber w parts.width x
    × IsFlag (byte ",") x parts.thousands y
    × IsFlag (byte ".") y parts.dot z
    × IsPrecision parts.dot z parts.precision parts.left
