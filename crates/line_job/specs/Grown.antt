-- A text to which more was put.
use Rattle.std.specs.Prelude.{◌≡◌, ℕ, List, ◌++◌, length}
use Rattle.std.specs.Str.{IsUtf8}

-- Behind its first so many bytes, which are a text, stands what was put to it.
pub record IsGrown (before : ℕ) (text : List ℕ) : Type 0 where
  pub front : List ℕ
  pub more : List ℕ
  pub is : text ≡ front ++ more
  pub utf8 : IsUtf8 front
  pub long : before ≡ length front
