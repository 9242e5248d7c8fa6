use denote.Text.{Utf8}
use denote.Shadow.{shadow}
use Rattle.std.proofs.Common.{length}
use Rattle.scan_fmt.proofs.Characters.{Passed}
use Rattle.scan_fmt.proofs.Patterns.{Begins}
use Rattle.scan_fmt.proofs.directive.pattern.Given as goal

-- what was passed is the front of a pattern
abbrev pub invariant-pattern : goal.invariant-pattern
invariant-pattern l = shadow (Utf8 l.rest) × Passed (Begins l.escaped) l.text l.rest

abbrev pub decreases-pattern : goal.decreases-pattern
decreases-pattern l = length l.rest
