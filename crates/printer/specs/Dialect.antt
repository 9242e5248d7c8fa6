-- The words that name dialects.
use Rattle.std.specs.Prelude.{ℕ, List, codes, ◌≢◌}
use Rattle.printer.specs.declared.dialect.Dialect.{Dialect}
use Rattle.printer.specs.declared.dialect.Dialect.TheVariants.{Printf, Strfmt, Formatx}

-- The word of each dialect.
abbrev pub dialect_word : Dialect → List ℕ
dialect_word Printf = codes "printf"
dialect_word Strfmt = codes "strfmt"
dialect_word Formatx = codes "formatx"

-- The word names no dialect.
abbrev pub NamesNoDialect : List ℕ → Type 0
NamesNoDialect word = (dialect : Dialect) → word ≢ dialect_word dialect
