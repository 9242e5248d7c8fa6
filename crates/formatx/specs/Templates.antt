-- Templates and renderers as callers see them.
use Rattle.std.specs.Prelude.{◌≡◌, flat_map, ℕ, List, [], ◌∷◌}
use Rattle.formatx.specs.Grammar.{Spells}
use Rattle.formatx.specs.Scene.{covered}
use Rattle.formatx.specs.declared.ast.Argument.{Argument}
use Rattle.formatx.specs.declared.ast.Argument.TheVariants.{Named}
use Rattle.formatx.specs.declared.ast.Segment.{Segment}
use Rattle.formatx.specs.declared.ast.Segment.TheVariants.{Placeholder as Placed}

-- a renderer: the source of its template, its values in order, and its names
pub record Filling (V : Type 0) : Type 0 where
  pub source : List ℕ
  pub values : List V
  pub names : List (List ℕ × ℕ)

-- the name of an argument, if it has one
abbrev pub argument_names : List ℕ → Argument → List (List ℕ)
argument_names source (Named s) = covered source s ∷ []
argument_names source _ = []

-- the name of a segment's argument, if it is a placeholder whose argument has one
abbrev pub segment_names : List ℕ → Segment → List (List ℕ)
segment_names source (Placed p) = argument_names source p.argument
segment_names source _ = []

-- these are the names in a source: those of the placeholders that it spells, in order, repeats kept; names of counts aren't among them
abbrev pub HasNames : List ℕ → List (List ℕ) → Type 0
HasNames source names = (segments : List Segment) × Spells source segments × (names ≡ flat_map (segment_names source) segments)
