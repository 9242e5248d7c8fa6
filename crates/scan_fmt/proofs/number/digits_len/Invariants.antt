use Rattle.std.proofs.Common.{take}
use Rattle.std.specs.Str.Parse.{AllDigits}
use Rattle.scan_fmt.proofs.number.digits_len.Given as goal

-- what was passed are digits
abbrev pub invariant-digits : goal.invariant-digits
invariant-digits l = AllDigits l.radix (take l.at l.bytes)
