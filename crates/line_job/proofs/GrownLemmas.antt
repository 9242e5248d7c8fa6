-- A text to which more was put may be cut where it ended before.
use Rattle.std.proofs.Common.{◌≡◌, ◌++◌, ◌+◌, ℕ, List, length, take, IsCharBoundary, sym, ap, ◌∙◌, subst, arith, length-append}
use Rattle.std.proofs.Math.Seq.{take-append_seam}
use Rattle.std.specs.Str.{IsUtf8}
use Rattle.std.proofs.lemmas.Str.{IsCharBoundary-from_take}
use Rattle.line_job.specs.Grown.{IsGrown}

pub boundary_before : (before : ℕ) (text : List ℕ) → IsUtf8 text → IsGrown before text → IsCharBoundary text before
boundary_before before text v grown =
    let cut : take before text ≡ grown.front = rw (grown.long, grown.is) (take-append_seam grown.front grown.more) in
    let len : length text ≡ length grown.front + length grown.more = ap length grown.is ∙ length-append grown.front grown.more in
    IsCharBoundary-from_take text before v (omega (arith, grown.long, len)) (subst IsUtf8 (sym cut) grown.utf8)

pub cut_again : (front more text : List ℕ) (before : ℕ) → text ≡ front ++ more → before ≡ length front → take before text ≡ front
cut_again front more text before is e = rw (e, is) (take-append_seam front more)
