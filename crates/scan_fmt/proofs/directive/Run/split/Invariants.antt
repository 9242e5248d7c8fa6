use denote.Text.{Utf8}
use denote.Shadow.{shadow}
use Rattle.std.proofs.Common.{length}
use Rattle.std.specs.List.{AllByRecursion}
use Rattle.scan_fmt.specs.Scanned.{Suits}
use Rattle.scan_fmt.specs.Inner.Parts.{run_of}
use Rattle.scan_fmt.proofs.Characters.{Passed}
use Rattle.scan_fmt.proofs.directive.Run.split.Given as goal

-- what was passed is a run
abbrev pub invariant-run : goal.invariant-run
invariant-run l = shadow (Utf8 l.rest) × Passed (AllByRecursion (Suits (run_of l.self))) l.input l.rest

abbrev pub decreases-run : goal.decreases-run
decreases-run l = length l.rest
