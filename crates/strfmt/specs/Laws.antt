-- Laws of what the crate prints.
use Rattle.std.specs.Prelude.{◌≡◌, ◌≤◌, ℕ, List, Option, Result, Ok, unwrap_or, length, encode_utf8_all, IsUtf8}
use Rattle.strfmt.specs.declared.cause.Cause.{Cause}
use Rattle.strfmt.specs.Fault.{Outcome}
use Rattle.strfmt.specs.Field.{Integer, text_field, integer_field}
use Rattle.strfmt.specs.Grammar.Pattern.{IsRead}
use Rattle.strfmt.specs.Spec.{Spec, View}
use Rattle.strfmt.specs.Text.{Meaning, Prints}

-- The text has at least as many characters as the width says.
abbrev pub HasWidth : Spec → List ℕ → Type 0
HasWidth spec text = (cs : List ℕ) × (text ≡ encode_utf8_all cs) × (unwrap_or spec.width 0 ≤ length cs)

-- A field that is printed has at least its width.
pub record FillsWidth : Type 0 where
  pub text : (spec : Spec) (text field : List ℕ) → text_field spec text ≡ Ok field → HasWidth spec field
  pub integer : (spec : Spec) (it : Integer) (field : List ℕ) → integer_field spec it ≡ Ok field → HasWidth spec field

-- Each pattern reads in exactly one way, as a formatter or as the cause of a refusal.
pub record ReadsOnce : Type 0 where
  pub some : (pattern : List ℕ) → IsUtf8 pattern → (read : Result View Cause) × IsRead pattern read
  pub once : (pattern : List ℕ) (one other : Result View Cause) → IsRead pattern one → IsRead pattern other → one ≡ other

-- Under a partial map from the texts of keys to meanings each text prints exactly one thing, a text or a fault.
pub record PrintsOnce : Type 0 where
  pub some : (meanings : List ℕ → Option Meaning) (text : List ℕ) → IsUtf8 text → (outcome : Outcome) × Prints meanings text outcome
  pub once : (meanings : List ℕ → Option Meaning) (text : List ℕ) (one other : Outcome) → Prints meanings text one → Prints meanings text other → one ≡ other
