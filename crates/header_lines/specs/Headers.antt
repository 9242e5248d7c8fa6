-- The header lines, each with its rule, and why it is refused; the numbers are those of the lines.
use Rattle.std.specs.Prelude.{◌≡◌, ◌⊎◌, ℕ, List, [], ◌∷◌}
use Rattle.sprintf.specs.Grammar.{IsFormat, IsNoFormat}
use Rattle.sprintf.specs.declared.parser.FormatElement.{FormatElement}
use Rattle.whiteread.specs.Words.{words}
use Rattle.values.specs.declared.kind.Kind.{Kind}
use Rattle.values.specs.Kind.{AreKinds}
use Rattle.row_format.specs.Columns.{columns_of}
use Rattle.row_format.specs.Plannable.{IsPlannable}
use Rattle.separation.specs.declared.Refused.{Refused}
use Rattle.separation.specs.Refusal.{IsRefused}
use Rattle.printer.specs.declared.dialect.Dialect.{Dialect}
use Rattle.printer.specs.declared.error.TemplateFault.{TemplateFault}
use Rattle.printer.specs.declared.error.PrinterError.TheVariants.{Template as NoTemplate}
use Rattle.printer.specs.Dialect.{dialect_word}
use Rattle.printer.specs.Text.{IsTemplateOf, RefusesTemplate}
use Rattle.header_lines.specs.declared.cause.LineCause.{LineCause}
use Rattle.header_lines.specs.declared.cause.LineCause.TheVariants.{Header, SourceFormat, Refused as OfFormat, Template}

-- A kinds line: words that name these kinds.
abbrev pub IsKindsLine : List ℕ → List Kind → Type 0
IsKindsLine line kinds = AreKinds (words line) kinds

-- A kinds line is refused: one of its words names no kind.
abbrev pub RefusesKinds : ℕ → List ℕ → LineCause → Type 0
RefusesKinds number line why = ((kinds : List Kind) → ¬ IsKindsLine line kinds) × (why ≡ Header number)

-- A format line: a printf format whose rows can be read back over these kinds.
abbrev pub IsFormatLine : List Kind → List ℕ → Type 0
IsFormatLine kinds line = (elements : List FormatElement) × IsFormat line elements × IsPlannable (columns_of elements).columns kinds

-- A format line is refused: it is no printf format, or its rows can't be read back.
abbrev pub RefusesFormatLine : ℕ → List Kind → List ℕ → LineCause → Type 0
RefusesFormatLine number kinds line why = (IsNoFormat line × (why ≡ SourceFormat number))
    ⊎ ((elements : List FormatElement) × (refused : Refused) × IsFormat line elements × IsRefused (columns_of elements).columns kinds refused × (why ≡ OfFormat number refused))

-- A dialect line: the one word of the dialect.
abbrev pub IsDialectLine : List ℕ → Dialect → Type 0
IsDialectLine line dialect = words line ≡ dialect_word dialect ∷ []

-- A dialect line is refused: it isn't one word that names a dialect.
abbrev pub RefusesDialect : ℕ → List ℕ → LineCause → Type 0
RefusesDialect number line why = ((dialect : Dialect) → ¬ IsDialectLine line dialect) × (why ≡ Header number)

-- A template line: a template of the dialect.
abbrev pub IsTemplateLine : Dialect → List ℕ → Type 0
IsTemplateLine dialect line = IsTemplateOf dialect line

-- A template line is refused: it is no template of the dialect.
abbrev pub RefusesTemplateLine : ℕ → Dialect → List ℕ → LineCause → Type 0
RefusesTemplateLine number dialect line why = (fault : TemplateFault) × RefusesTemplate dialect line (NoTemplate fault) × (why ≡ Template number fault)
