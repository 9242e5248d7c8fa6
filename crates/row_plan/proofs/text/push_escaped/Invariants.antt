use denote.Text.{Utf8}
use denote.Shadow.{shadow}
use Rattle.std.proofs.Common.{◌≡◌, ◌++◌, string_bytes, length}
use Rattle.row_format.specs.Planned.{escaped}
use Rattle.row_plan.proofs.text.push_escaped.Given as goal

-- what is written, and what is left
abbrev pub invariant-characters : goal.invariant-characters
invariant-characters l = shadow (Utf8 l.rest) × (string_bytes l.out ++ escaped l.rest ≡ string_bytes l.fn.out ++ escaped l.fn.text)

abbrev pub decreases-characters : goal.decreases-characters
decreases-characters l = length l.rest
