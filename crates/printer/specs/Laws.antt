-- The laws of printers.
use Rattle.std.specs.Prelude.{◌≡◌, ℕ, List, Result}
use Rattle.values.specs.declared.kind.Kind.{Kind}
use Rattle.values.specs.Datum.{Datum}
use Rattle.printer.specs.declared.dialect.Dialect.{Dialect}
use Rattle.printer.specs.declared.error.RenderFault.{RenderFault}
use Rattle.printer.specs.Dialect.{dialect_word}
use Rattle.printer.specs.Text.{Printing, Prints}

-- A template prints one text or one fault over values.
abbrev pub PrintsOnce : Type 0
PrintsOnce = (p : Printing) (kinds : List Kind) (values : List Datum) (one other : Result (List ℕ) RenderFault) → Prints p kinds values one → Prints p kinds values other → one ≡ other

-- Two dialects with the same word are the same.
abbrev pub DialectWordsDiffer : Type 0
DialectWordsDiffer = (one other : Dialect) → dialect_word one ≡ dialect_word other → one ≡ other
