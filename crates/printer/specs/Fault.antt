-- Under which name the faults of each dialect are told.
use Rattle.std.specs.Prelude.{◌≡◌, ℕ, List, Result, Ok, Err}
use Rattle.sprintf.specs.declared.PrintfError.{PrintfError}
use Rattle.sprintf.specs.declared.PrintfError.TheVariants.{ParseError, WrongType as SprintfWrongType, TooManyArgs as SprintfTooManyArgs, NotEnoughArgs as SprintfNotEnoughArgs, Unknown, NoMemory}
use Rattle.strfmt.specs.Fault.{Outcome, invalid, key_error, type_error}
use Rattle.formatx.specs.Fault.{Fault, unreadable, missing, unsupported}
use Rattle.printer.specs.declared.error.RenderFault.{RenderFault}
use Rattle.printer.specs.declared.error.RenderFault.TheVariants.{WrongType, TooManyArgs, NotEnoughArgs, Invalid, KeyError, TypeError, Parse, MissingArgument, UnsupportedTrait}

-- The refusal of a printf format is told under its own name; three of them never come of values that are carried.
abbrev pub IsPrintfFault : PrintfError → RenderFault → Type 0
IsPrintfFault SprintfWrongType fault = fault ≡ WrongType
IsPrintfFault SprintfTooManyArgs fault = fault ≡ TooManyArgs
IsPrintfFault SprintfNotEnoughArgs fault = fault ≡ NotEnoughArgs
IsPrintfFault ParseError fault = ⊥
IsPrintfFault Unknown fault = ⊥
IsPrintfFault NoMemory fault = ⊥

-- The text, or the kind of fault, of a strfmt template.
abbrev pub strfmt_told : Outcome → Result (List ℕ) RenderFault
strfmt_told (Ok text) = Ok text
strfmt_told (Err (invalid message)) = Err Invalid
strfmt_told (Err (key_error message)) = Err KeyError
strfmt_told (Err (type_error message)) = Err TypeError

-- The text, or the kind of fault, of a formatx template.
abbrev pub formatx_told : Result (List ℕ) Fault → Result (List ℕ) RenderFault
formatx_told (Ok text) = Ok text
formatx_told (Err (unreadable place message)) = Err Parse
formatx_told (Err (missing name place)) = Err MissingArgument
formatx_told (Err (unsupported type place)) = Err UnsupportedTrait
