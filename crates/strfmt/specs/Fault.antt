-- Why a text, a pattern or a value is refused, with the messages.
use Rattle.std.specs.Prelude.{◌≡◌, ℕ, List, ◌++◌, Bool, Option, Some, None, Result, Err, [], ◌∷◌, if◌then◌else◌, string_bytes, codes, encode_utf8}
use Rattle.std.specs.Char.{is_ascii}
use Rattle.std.specs.Fmt.{debug_escape}
use Rattle.std.specs.Str.{byte}
use Rattle.strfmt.specs.declared.types.FmtError.{FmtError}
use Rattle.strfmt.specs.declared.types.FmtError.TheVariants.{Invalid, KeyError, TypeError, NoMemory}
use Rattle.strfmt.specs.declared.cause.Cause.{Cause}
use Rattle.strfmt.specs.declared.cause.Cause.TheVariants.{LoneBrace, NestedBrace, NoClosingBrace, NoKey, GreatWidth, GreatPrecision, NoPrecision, LongType, BadType, BadComma, NotOfIntegers, PrecisionOfInteger, CommaOfInteger, ZeroFillOfInteger, AlternateWithoutType, NotOfTexts, AlternateOfText, CommaOfText, SignOfText, PaddingAtEqual}

-- A fault has a kind and a message: what is written is malformed, a key has no value, or a type doesn't fit its value.
pub data Fault : Type 0 where
  invalid : List ℕ → Fault
  key_error : List ℕ → Fault
  type_error : List ℕ → Fault

-- The error is this fault.
abbrev pub IsFault : FmtError → Fault → Type 0
IsFault (Invalid message) fault = fault ≡ invalid (string_bytes message)
IsFault (KeyError message) fault = fault ≡ key_error (string_bytes message)
IsFault (TypeError message) fault = fault ≡ type_error (string_bytes message)
IsFault NoMemory fault = ⊥

-- The debug text of a character, without its quotes; past ASCII it is the character.
abbrev pub escaped : ℕ → List ℕ
escaped c = if is_ascii c then debug_escape (byte "'") c else encode_utf8 c

-- Each cause has its kind and its message.
abbrev pub fault_of : Cause → Fault
fault_of LoneBrace = invalid (codes "Single '}' encountered in format string")
fault_of NestedBrace = invalid (codes "extra { found")
fault_of NoClosingBrace = invalid (codes "Expected '}' before end of string")
fault_of NoKey = invalid (codes "must specify identifier")
fault_of GreatWidth = invalid (codes "overflow error when parsing width")
fault_of NoPrecision = invalid (codes "Format specifier missing precision")
fault_of GreatPrecision = invalid (codes "overflow error when parsing precision")
fault_of LongType = invalid (codes "Invalid format specifier")
fault_of (BadType c) = type_error (codes "Invalid type specifier: '" ++ escaped c ++ codes "'")
fault_of (BadComma c) = invalid (codes "Invalid comma type: " ++ encode_utf8 c)
fault_of (NotOfIntegers c) = type_error (codes "Unknown format code '" ++ encode_utf8 c ++ codes "' for type")
fault_of PrecisionOfInteger = type_error (codes "precision not allowed for integers")
fault_of CommaOfInteger = invalid (codes "thousands specifier not yet supported")
fault_of ZeroFillOfInteger = invalid (codes "sign aware 0 padding not yet supported")
fault_of AlternateWithoutType = invalid (codes "alternate ('#') cannot be used with type ' '")
fault_of (NotOfTexts c) = type_error (codes "Unknown format code Some('" ++ encode_utf8 c ++ codes "') for object of type 'str'")
fault_of AlternateOfText = type_error (codes "Alternate form (#) not allowed in string format specifier")
fault_of CommaOfText = type_error (codes "Cannot specify ',' with 's'")
fault_of SignOfText = type_error (codes "Sign not allowed in string format specifier")
fault_of PaddingAtEqual = invalid (codes "sign aware zero padding and Align '=' not yet supported")

-- A key without a value is told by its text.
abbrev pub no_value : List ℕ → Fault
no_value key = key_error (codes "Invalid key: " ++ key)

-- An outcome is a text, or a fault in its place.
abbrev pub Outcome : Type 0
Outcome = Result (List ℕ) Fault

-- A check is a test that may fail, with the cause that it then has.
pub record Check : Type 0 where
  pub fails : Bool
  pub cause : Cause

-- The first check that fails gives the cause.
abbrev pub first_failure : List Check → Option Cause
first_failure [] = None
first_failure (check ∷ checks) = if check.fails then Some check.cause else first_failure checks

-- A cause's fault stands in the place of the outcome.
abbrev pub unless : {A : Type 0} → Option Cause → Result A Fault → Result A Fault
unless None outcome = outcome
unless (Some cause) outcome = Err (fault_of cause)

-- An error is displayed as its kind with the message.
abbrev pub error_text : FmtError → List ℕ
error_text (Invalid message) = codes "Invalid(" ++ string_bytes message ++ codes ")"
error_text (KeyError message) = codes "KeyError(" ++ string_bytes message ++ codes ")"
error_text (TypeError message) = codes "TypeError(" ++ string_bytes message ++ codes ")"
error_text NoMemory = codes "NoMemory"
