use Rattle.numerals.proofs.Unique.{numeral-digits}
use Rattle.numerals.proofs.laws.numeral_is_std.Goals as goal

pub returns : goal.returns
returns c = numeral-digits
