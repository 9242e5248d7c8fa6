-- What a built pattern is.
use Rattle.std.specs.Prelude.{◌≡◌, ℕ, List, ◌++◌, codes}
use Rattle.std.specs.Str.{chars}
use Rattle.regex.specs.Patterns.{default_config}
use Rattle.regex.specs.Strings.{regex_source, regex_config, IsReadFromSource}
use Rattle.regex.specs.declared.string.regex.Regex.{Regex}

-- the pattern as a group that begins where the text begins
abbrev pub anchored : List ℕ → List ℕ
anchored pattern = codes "^(?:" ++ (pattern ++ codes ")")

-- it is what `regex` reads in the anchored pattern
pub record IsBuilt (pattern : List ℕ) (regex : Regex) : Type 0 where
  pub source : chars (regex_source regex) ≡ anchored pattern
  pub config : regex_config regex ≡ default_config
  pub read : IsReadFromSource regex
