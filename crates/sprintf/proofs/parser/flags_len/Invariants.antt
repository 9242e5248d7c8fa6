use Rattle.std.proofs.Common.{◌≡◌, ℕ, ◌<◌, get_or, true}
use Rattle.sprintf.specs.Grammar.{is_flag}
use Rattle.sprintf.proofs.parser.flags_len.Given as goal

abbrev pub invariant-loop-i : goal.invariant-loop-i
invariant-loop-i l = (k : ℕ) → k < l.i → is_flag (get_or l.bytes k 0) ≡ true
