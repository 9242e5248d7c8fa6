-- Texts that a source ends with, which a reader has still before it.
use Rattle.std.specs.Prelude.{◌≡◌, ℕ, List, ◌++◌}

-- the source ends with the text
pub record IsEnd (source text : List ℕ) : Type 0 where
  pub front : List ℕ
  pub whole : source ≡ front ++ text
