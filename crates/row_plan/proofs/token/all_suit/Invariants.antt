use denote.Text.{Utf8}
use denote.Shadow.{shadow}
use Rattle.std.proofs.Common.{◌↔◌, length}
use Rattle.std.specs.List.{AllByRecursion}
use Rattle.std.specs.Str.{chars}
use Rattle.scan_fmt.specs.Grammar.{Until}
use Rattle.scan_fmt.specs.Scanned.{Suits}
use Rattle.row_plan.proofs.token.all_suit.Given as goal

-- all suit where those that are left do
abbrev pub invariant-characters : goal.invariant-characters
invariant-characters l = shadow (Utf8 l.rest) × (AllByRecursion (Suits (Until l.stop)) (chars l.rest) ↔ AllByRecursion (Suits (Until l.stop)) (chars l.fn.text))

abbrev pub decreases-characters : goal.decreases-characters
decreases-characters l = length l.rest
