-- How private calls append a text, and how they tell a fault.
use Rattle.std.specs.Prelude.{◌≡◌, ◌≢◌, ℕ, List, ◌++◌, Result, Ok, Err}
use Rattle.sprintf.specs.declared.PrintfError.{PrintfError}
use Rattle.sprintf.specs.declared.PrintfError.TheVariants.{NoMemory as PrintfNoMemory}
use Rattle.sprintf.specs.declared.parser.FormatElement.{FormatElement}
use Rattle.sprintf.specs.Text.{printed}
use Rattle.strfmt.specs.declared.types.FmtError.{FmtError}
use Rattle.strfmt.specs.declared.types.FmtError.TheVariants.{NoMemory as StrfmtNoMemory}
use Rattle.strfmt.specs.Fault.{IsFault as IsStrfmtFault, Fault as StrfmtFault}
use Rattle.formatx.specs.declared.error.Error.{Error}
use Rattle.formatx.specs.declared.error.Error.TheVariants.{NoMemory as FormatxNoMemory}
use Rattle.formatx.specs.Fault.{IsFault as IsFormatxFault, Fault as FormatxFault}
use Rattle.values.specs.declared.kind.Kind.{Kind}
use Rattle.values.specs.Datum.{Datum, printf_meaning, each_of}
use Rattle.printer.specs.declared.error.TextError.{TextError}
use Rattle.printer.specs.declared.error.TextError.TheVariants.{Fault as TextFault, NoMemory as NoRoom}
use Rattle.printer.specs.declared.error.RenderFault.{RenderFault}
use Rattle.printer.specs.Fault.{IsPrintfFault, strfmt_told, formatx_told}

-- A text that holds was appended; or the answer is a fault that holds, or want of memory, and the text is as before.
abbrev pub AppendsWhere : (Result (List ℕ) RenderFault → Type 0) → List ℕ → List ℕ → Result (Unit {0}) TextError → Type 0
AppendsWhere P old new (Ok done) = (text : List ℕ) × P (Ok text) × (new ≡ old ++ text)
AppendsWhere P old new (Err (TextFault fault)) = P (Err fault) × (new ≡ old)
AppendsWhere P old new (Err NoRoom) = new ≡ old

-- What elements of a printf format print over values of these kinds.
abbrev pub ElementsPrint : List FormatElement → List Kind → List Datum → Result (List ℕ) RenderFault → Type 0
ElementsPrint elements kinds values (Ok text) = printed elements (each_of printf_meaning kinds values) ≡ Ok text
ElementsPrint elements kinds values (Err fault) = (cause : PrintfError) × (printed elements (each_of printf_meaning kinds values) ≡ Err cause) × IsPrintfFault cause fault

-- The refusal is one that carried values give.
abbrev pub IsCarriedFault : PrintfError → Type 0
IsCarriedFault cause = (fault : RenderFault) × IsPrintfFault cause fault

-- The refusal of a printf format is told so.
abbrev pub TellsPrintf : PrintfError → TextError → Type 0
TellsPrintf cause (TextFault fault) = IsPrintfFault cause fault
TellsPrintf cause NoRoom = cause ≡ PrintfNoMemory

-- The error of a strfmt template is told so.
abbrev pub TellsStrfmt : FmtError → TextError → Type 0
TellsStrfmt error (TextFault told) = (error ≢ StrfmtNoMemory) × ((fault : StrfmtFault) → IsStrfmtFault error fault → strfmt_told (Err fault) ≡ Err told)
TellsStrfmt error NoRoom = error ≡ StrfmtNoMemory

-- The error of a formatx template is told so.
abbrev pub TellsFormatx : Error → TextError → Type 0
TellsFormatx error (TextFault told) = (error ≢ FormatxNoMemory) × ((fault : FormatxFault) → IsFormatxFault error fault → formatx_told (Err fault) ≡ Err told)
TellsFormatx error NoRoom = error ≡ FormatxNoMemory
