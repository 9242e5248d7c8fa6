-- What a template is rendered over: its source, the values by position, and the names of some positions.
use Rattle.std.specs.Prelude.{ℕ, Bool, List, map, slice_range, bytes_eq, if◌then◌else◌, Option, Some, None}
use Rattle.std.specs.Option.{option_or}
use Rattle.std.specs.Map.{lookup}
use Rattle.formatx.specs.Values.{Meaning}
use Rattle.formatx.specs.declared.ast.Span.{Span}

-- what a template is rendered over: `names` gives the position that a text names, and `strict` says whether a missing value is a fault
pub record Scene : Type 0 where
  pub source : List ℕ
  pub values : List Meaning
  pub names : List ℕ → Option ℕ
  pub strict : Bool

-- the position that a text names, by pairs of names and positions
abbrev pub named : List (List ℕ × ℕ) → List ℕ → Option ℕ
named names text = lookup (bytes_eq text) names

-- the scene of a call, whose values mean what `meaning` says
abbrev pub scene_over : {V : Type 0} → (V → Meaning) → List ℕ → List V → List (List ℕ × ℕ) → Bool → Scene
scene_over meaning source args names strict = record { source = source; values = map meaning args; names = named names; strict = strict }

-- the part of the source that a span covers
abbrev pub covered : List ℕ → Span → List ℕ
covered source s = slice_range source s.start s.end

-- the names, and one more for a position: a text that names one already keeps it
abbrev pub with_name : (List ℕ → Option ℕ) → List ℕ → ℕ → List ℕ → Option ℕ
with_name names name index text = option_or (names text) (if bytes_eq name text then Some index else None)
