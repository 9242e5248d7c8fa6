use Rattle.std.proofs.Common.{◌≡◌, ◌≤◌, ◌++◌, ℕ, List, string_bytes, length}
use Rattle.row_format.specs.Columns.{columns_of, with_text}
use Rattle.row_format.proofs.format.push_literals.Given as goal

-- the text so far, and what is left
abbrev pub invariant-literals : goal.invariant-literals
invariant-literals l = (done : List ℕ) × (string_bytes l.text ≡ string_bytes l.fn.text ++ done) × (columns_of l.fn.elements ≡ with_text done (columns_of l.rest)) × (length l.rest ≤ length l.fn.elements)

abbrev pub decreases-literals : goal.decreases-literals
decreases-literals l = length l.rest
