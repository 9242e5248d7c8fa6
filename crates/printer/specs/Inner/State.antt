-- What a printer's fields stand for.
use Rattle.std.specs.Prelude.{◌≡◌, ℕ, List, IsUtf8}
use Rattle.sprintf.specs.Grammar.{IsFormat}
use Rattle.printer.specs.declared.dialect.Dialect.{Dialect}
use Rattle.printer.specs.declared.dialect.Dialect.TheVariants.{Printf, Strfmt, Formatx}
use Rattle.printer.specs.declared.printer.Parsed.{Parsed}
use Rattle.printer.specs.declared.printer.Parsed.TheVariants.{Printf as PrintfParsed, Strfmt as StrfmtParsed, Formatx as FormatxParsed}

-- The dialect of a parsed template.
abbrev pub dialect_of : Parsed → Dialect
dialect_of (PrintfParsed elements) = Printf
dialect_of (StrfmtParsed template) = Strfmt
dialect_of (FormatxParsed template) = Formatx

-- The template was parsed from the text.
abbrev pub StandsFor : Parsed → List ℕ → Type 0
StandsFor (PrintfParsed elements) text = IsFormat text elements.items
StandsFor (StrfmtParsed template) text = template ≡ text
StandsFor (FormatxParsed template) text = template ≡ text

-- What holds of a printer's fields.
pub record IsSound (text : List ℕ) (parsed : Parsed) : Type 0 where
  pub utf8 : IsUtf8 text
  pub stands : StandsFor parsed text
