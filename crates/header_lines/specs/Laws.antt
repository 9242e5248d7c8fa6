-- What holds of header lines.
use Rattle.std.specs.Prelude.{◌≡◌, ℕ, List}
use Rattle.sprintf.specs.Grammar.{IsFormat}
use Rattle.sprintf.specs.declared.parser.FormatElement.{FormatElement}
use Rattle.values.specs.declared.kind.Kind.{Kind}
use Rattle.row_format.specs.Columns.{columns_of}
use Rattle.printer.specs.declared.dialect.Dialect.{Dialect}
use Rattle.header_lines.specs.Headers.{IsKindsLine, RefusesKinds, IsFormatLine, RefusesFormatLine, IsDialectLine, RefusesDialect, IsTemplateLine, RefusesTemplateLine}
use Rattle.header_lines.specs.Heading.{Heading, Headed, KeepsHeading, RefusesHeading}
use Rattle.header_lines.specs.declared.cause.LineCause.{LineCause}

-- A header line says one thing at most: what comes after it, kinds, the columns of a format, a dialect.
pub record SayOneThing : Type 0 where
  pub heading : (heading : Heading) (line : List ℕ) (a b : Headed) → KeepsHeading heading line a → KeepsHeading heading line b → a ≡ b
  pub kinds : (line : List ℕ) (a b : List Kind) → IsKindsLine line a → IsKindsLine line b → a ≡ b
  pub columns : (line : List ℕ) (a b : List FormatElement) → IsFormat line a → IsFormat line b → columns_of a ≡ columns_of b
  pub dialect : (line : List ℕ) (a b : Dialect) → IsDialectLine line a → IsDialectLine line b → a ≡ b

-- A header line is refused for one cause at most.
pub record HaveOneCause : Type 0 where
  pub heading : (heading : Heading) (number : ℕ) (line : List ℕ) (a b : LineCause) → RefusesHeading heading number line a → RefusesHeading heading number line b → a ≡ b
  pub kinds : (number : ℕ) (line : List ℕ) (a b : LineCause) → RefusesKinds number line a → RefusesKinds number line b → a ≡ b
  pub format : (number : ℕ) (kinds : List Kind) (line : List ℕ) (a b : LineCause) → RefusesFormatLine number kinds line a → RefusesFormatLine number kinds line b → a ≡ b
  pub dialect : (number : ℕ) (line : List ℕ) (a b : LineCause) → RefusesDialect number line a → RefusesDialect number line b → a ≡ b
  pub template : (number : ℕ) (dialect : Dialect) (line : List ℕ) (a b : LineCause) → RefusesTemplateLine number dialect line a → RefusesTemplateLine number dialect line b → a ≡ b

-- No header line keeps its rule and is refused.
pub record AreNeverBoth : Type 0 where
  pub heading : (heading : Heading) (number : ℕ) (line : List ℕ) (headed : Headed) (why : LineCause) → KeepsHeading heading line headed → ¬ RefusesHeading heading number line why
  pub kinds : (number : ℕ) (line : List ℕ) (kinds : List Kind) (why : LineCause) → IsKindsLine line kinds → ¬ RefusesKinds number line why
  pub format : (number : ℕ) (kinds : List Kind) (line : List ℕ) (why : LineCause) → IsFormatLine kinds line → ¬ RefusesFormatLine number kinds line why
  pub dialect : (number : ℕ) (line : List ℕ) (dialect : Dialect) (why : LineCause) → IsDialectLine line dialect → ¬ RefusesDialect number line why
  pub template : (number : ℕ) (dialect : Dialect) (line : List ℕ) (why : LineCause) → IsTemplateLine dialect line → ¬ RefusesTemplateLine number dialect line why

-- A header line says one thing, or is refused for one cause, and never both.
pub record HeaderLinesAreClear : Type 0 where
  pub one_thing : SayOneThing
  pub one_cause : HaveOneCause
  pub never_both : AreNeverBoth
