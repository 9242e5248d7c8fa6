-- What a template prints over values of kinds: a text, or a fault.
use Rattle.std.specs.Prelude.{◌≡◌, ◌||◌, ℕ, ◌+◌, true, false, if◌then◌else◌, List, [], ◌∷◌, bytes_eq, Option, Some, None, Result, Ok, Err, ⊤}
use Rattle.numerals.specs.Numeral.{numeral}
use Rattle.sprintf.specs.declared.PrintfError.{PrintfError}
use Rattle.sprintf.specs.declared.parser.FormatElement.{FormatElement}
use Rattle.sprintf.specs.Grammar.{IsFormat, IsNoFormat}
use Rattle.sprintf.specs.Text.{PrintsFormat, RefusesFormat}
use Rattle.strfmt.specs.Fault.{Outcome}
use Rattle.strfmt.specs.Text.{Prints as StrfmtPrints}
use Rattle.formatx.specs.Fault.{Fault}
use Rattle.formatx.specs.Grammar.{IsTemplate}
use Rattle.formatx.specs.Text.{Prints as FormatxPrints}
use Rattle.values.specs.declared.kind.Kind.{Kind}
use Rattle.values.specs.Datum.{Datum, printf_meaning, each_of}
use Rattle.values.specs.Templates.{strfmt_meaning, formatx_meaning}
use Rattle.printer.specs.declared.dialect.Dialect.{Dialect}
use Rattle.printer.specs.declared.dialect.Dialect.TheVariants.{Printf, Strfmt, Formatx}
use Rattle.printer.specs.declared.error.PrinterError.{PrinterError}
use Rattle.printer.specs.declared.error.PrinterError.TheVariants.{Template, NoMemory}
use Rattle.printer.specs.declared.error.TemplateFault.TheVariants.{Printf as OfPrintf, Formatx as OfFormatx}
use Rattle.printer.specs.declared.error.TextError.{TextError}
use Rattle.printer.specs.declared.error.TextError.TheVariants.{Fault as TextFault, NoMemory as NoRoom}
use Rattle.printer.specs.declared.error.RenderFault.{RenderFault}
use Rattle.printer.specs.Fault.{IsPrintfFault, strfmt_told, formatx_told}

-- A template in a dialect, and the names of the first positions; there may be none.
pub record Printing : Type 0 where
  pub dialect : Dialect
  pub template : List ℕ
  pub names : List (List ℕ)

-- The value at a key, from a position on: the key is the position in decimal, or its name.
abbrev pub value_at_key : {A : Type 0} → ℕ → List (List ℕ) → List A → List ℕ → Option A
value_at_key place names [] key = None
value_at_key place [] (value ∷ values) key = if bytes_eq key (numeral 10 false place) then Some value else value_at_key (place + 1) [] values key
value_at_key place (name ∷ names) (value ∷ values) key = if bytes_eq key (numeral 10 false place) || bytes_eq key name then Some value else value_at_key (place + 1) names values key

-- The position that a key names, from one on: that of the first name that it is.
abbrev pub named_from : ℕ → List (List ℕ) → List ℕ → Option ℕ
named_from place [] key = None
named_from place (name ∷ names) key = if bytes_eq name key then Some place else named_from (place + 1) names key

-- What the template prints, by its dialect: a printf format over the values as arguments; a strfmt text over the map of their keys; a formatx template over positions and names, strictly.
abbrev pub PrintsBy : Dialect → List ℕ → List (List ℕ) → List Kind → List Datum → Result (List ℕ) RenderFault → Type 0
PrintsBy Printf template names kinds values (Ok text) = PrintsFormat template (each_of printf_meaning kinds values) text
PrintsBy Printf template names kinds values (Err fault) = (cause : PrintfError) × RefusesFormat template (each_of printf_meaning kinds values) cause × IsPrintfFault cause fault
PrintsBy Strfmt template names kinds values outcome =
    (printed : Outcome) × StrfmtPrints (value_at_key 0 names (each_of strfmt_meaning kinds values)) template printed × (outcome ≡ strfmt_told printed)
PrintsBy Formatx template names kinds values outcome =
    (printed : Result (List ℕ) Fault) × FormatxPrints (record { source = template; values = each_of formatx_meaning kinds values; names = named_from 0 names; strict = true }) printed × (outcome ≡ formatx_told printed)

-- What the template prints over values of these kinds.
abbrev pub Prints : Printing → List Kind → List Datum → Result (List ℕ) RenderFault → Type 0
Prints p kinds values outcome = PrintsBy p.dialect p.template p.names kinds values outcome

-- The text is a template of the dialect; for strfmt each text is.
abbrev pub IsTemplateOf : Dialect → List ℕ → Type 0
IsTemplateOf Printf text = (elements : List FormatElement) × IsFormat text elements
IsTemplateOf Strfmt text = ⊤
IsTemplateOf Formatx text = IsTemplate text

-- The text is no template of the dialect, or there was no memory.
abbrev pub RefusesTemplate : Dialect → List ℕ → PrinterError → Type 0
RefusesTemplate dialect text NoMemory = ⊤
RefusesTemplate Printf text (Template fault) = IsNoFormat text × (fault ≡ OfPrintf)
RefusesTemplate Strfmt text (Template fault) = ⊥
RefusesTemplate Formatx text (Template fault) = (¬ IsTemplate text) × (fault ≡ OfFormatx)

-- The template has a fault over these values, or there was no memory.
abbrev pub RefusesText : Printing → List Kind → List Datum → TextError → Type 0
RefusesText p kinds values (TextFault fault) = Prints p kinds values (Err fault)
RefusesText p kinds values NoRoom = ⊤
