use Rattle.std.proofs.Common.{◌≡◌, ◌≤◌, ◌<◌, ◌^◌, length, drop}
use Rattle.std.specs.Fmt.{digits_onto}
use Rattle.numerals.specs.Numeral.{numeral}
use Rattle.numerals.proofs.write.write_wide.Given as goal

abbrev pub invariant-digits : goal.invariant-digits
invariant-digits l = (l.end ≤ 128) × (l.rest < 2 ^ l.end) × (length l.out ≡ 128) × (digits_onto l.end l.base l.upper l.rest (drop l.end l.out) ≡ numeral l.base l.upper l.n)

abbrev pub decreases-digits : goal.decreases-digits
decreases-digits l = l.end
