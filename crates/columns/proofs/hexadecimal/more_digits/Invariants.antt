use Rattle.std.proofs.Common.{◌≡◌, ◌+◌, take}
use Rattle.columns.specs.Inner.Shapes.{base_of, is_upper, AreDigits}
use Rattle.columns.proofs.hexadecimal.more_digits.Given as goal

-- the digits so far, and the number that they are
abbrev pub invariant-digits : goal.invariant-digits
invariant-digits l = record {
  counted : l.count ≡ l.known + l.byte-index;
  digits : AreDigits (base_of l.notation) (is_upper l.notation) (take l.count l.text) l.number;
}
