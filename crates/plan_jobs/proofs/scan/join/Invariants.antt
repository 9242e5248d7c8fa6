-- What was joined, and the tokens that are left behind it, are all tokens joined.
use Rattle.std.proofs.Common.{◌≡◌, ◌++◌, string_bytes}
use Rattle.scan_fmt.specs.Slices.{slices_left}
use Rattle.plan_jobs.specs.Scan.{tab_joined}
use Rattle.plan_jobs.proofs.Joining.{behind}
use Rattle.plan_jobs.proofs.scan.join.Given as goal

abbrev pub invariant-others : goal.invariant-others
invariant-others l =
    (goal.iterator-others).can_next l.token-iterator ×
    (goal.iterator-others).is_finite l.token-iterator ×
    (tab_joined (slices_left l.fn.tokens) ≡ string_bytes l.joined ++ behind (slices_left l.token-iterator))
