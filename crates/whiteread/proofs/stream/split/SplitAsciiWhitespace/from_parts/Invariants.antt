use Rattle.std.proofs.Common.{ℕ, ◌≤◌, ◌<◌, ◌≡◌, ◌-◌, length}
use Rattle.std.specs.Str.{IsCharBoundary}
use Rattle.whiteread.proofs.stream.split.SplitAsciiWhitespace.from_parts.Given as goal

abbrev pub invariant-steps : goal.invariant-steps
invariant-steps l = record {
  after : l.fn.position ≤ l.position;
  past : length l.s < l.fn.position → l.position ≡ l.fn.position;
  within : l.fn.position ≤ length l.s → l.position ≤ length l.s;
  first : (place : ℕ) → l.fn.position ≤ place → place < l.position → IsCharBoundary l.s place → ⊥;
}

abbrev pub decreases-steps : goal.decreases-steps
decreases-steps l = length l.s - l.position
