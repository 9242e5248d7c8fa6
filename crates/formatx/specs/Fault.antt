-- What can be wrong with a template or its values, as plain data, and how an `Error` tells it.
use Rattle.std.specs.Prelude.{◌≡◌, ℕ, ◌-◌, List, ◌++◌, length, codes, string_bytes, decimal, ◌⊎◌, Option, Some, None, unwrap_or, Result, Ok, Err}
use Rattle.formatx.specs.declared.ast.Span.{Span}
use Rattle.formatx.specs.declared.ast.FormatType.{FormatType}
use Rattle.formatx.specs.declared.ast.FormatType.TheVariants.{Octal, LowerHex, UpperHex, Binary, LowerExp, UpperExp, Pointer}
use Rattle.formatx.specs.declared.error.Error.{Error}
use Rattle.formatx.specs.declared.error.Error.TheVariants.{Parse, MissingArgument, UnsupportedTrait, NoMemory}

-- a place that can't be read, with a message; a placeholder without its value; a type that isn't carried
pub data Fault : Type 0 where
  unreadable : Span → List ℕ → Fault
  missing : List ℕ → Span → Fault
  unsupported : FormatType → Span → Fault

-- the first fault, or what follows from a value
infixl 10 ◌>>=◌
abbrev pub ◌>>=◌ : {A B : Type 0} → Result A Fault → (A → Result B Fault) → Result B Fault
(Ok a) >>= f = f a
(Err e) >>= f = Err e

-- a source of that size ends with both texts: the bytes where the first begins, up to where the second does
abbrev pub between : ℕ → List ℕ → List ℕ → Span
between size from to = record { start = size - length from; end = size - length to }

-- the text between two backquotes, after the words
abbrev pub quoting : List ℕ → List ℕ → List ℕ
quoting words text = words ++ codes "`" ++ text ++ codes "`"

-- the error tells the fault
abbrev pub IsFault : Error → Fault → Type 0
IsFault (Parse s message) fault = fault ≡ unreadable s (string_bytes message)
IsFault (MissingArgument name s) fault = fault ≡ missing (string_bytes name) s
IsFault (UnsupportedTrait t s) fault = fault ≡ unsupported t s
IsFault NoMemory fault = ⊥

-- the error tells a fault of which this holds, or there was no memory
abbrev pub Tells : Error → (Fault → Type 0) → Type 0
Tells e P = ((fault : Fault) × P fault × IsFault e fault) ⊎ (e ≡ NoMemory)

-- the trait that a type asks for, where no value has it; the other types are carried
abbrev pub trait_of : FormatType → Option (List ℕ)
trait_of Octal = Some (codes "Octal")
trait_of LowerHex = Some (codes "LowerHex")
trait_of UpperHex = Some (codes "UpperHex")
trait_of Binary = Some (codes "Binary")
trait_of LowerExp = Some (codes "LowerExp")
trait_of UpperExp = Some (codes "UpperExp")
trait_of Pointer = Some (codes "Pointer")
trait_of _ = None

-- what an error prints
abbrev pub error_text : Error → List ℕ
error_text (Parse s message) = codes "parse error at byte " ++ decimal s.start ++ codes ": " ++ string_bytes message
error_text (MissingArgument name s) = codes "missing argument: `" ++ string_bytes name ++ codes "`"
error_text (UnsupportedTrait t s) = codes "unsupported format trait: `" ++ unwrap_or (trait_of t) (codes "Unknown") ++ codes "`"
error_text NoMemory = codes "no memory"
