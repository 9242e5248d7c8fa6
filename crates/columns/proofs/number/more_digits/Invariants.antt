use Rattle.std.proofs.Common.{◌≡◌, ◌+◌, take, false}
use Rattle.columns.specs.Inner.Shapes.{AreDigits}
use Rattle.columns.proofs.number.more_digits.Given as goal

-- the digits so far, and the number that they are
abbrev pub invariant-digits : goal.invariant-digits
invariant-digits l = record {
  counted : l.count ≡ l.known + l.byte-index;
  digits : AreDigits 10 false (take l.count l.text) l.number;
}
