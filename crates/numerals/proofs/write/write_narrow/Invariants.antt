use Rattle.std.proofs.Common.{◌≡◌, ◌≤◌, length, drop}
use Rattle.std.specs.Fmt.{digits_onto}
use Rattle.numerals.proofs.write.write_narrow.Given as goal

abbrev pub invariant-digits : goal.invariant-digits
invariant-digits l = (l.start ≤ 128) × (length l.out ≡ 128) × (digits_onto l.start l.base l.upper l.rest (drop l.start l.out) ≡ digits_onto l.end l.base l.upper l.n (drop l.end l.initial.out))

abbrev pub decreases-digits : goal.decreases-digits
decreases-digits l = l.start
