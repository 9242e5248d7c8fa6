use Rattle.numerals.proofs.Unique.{length-numeral-le}
use Rattle.numerals.proofs.laws.longer_numeral.Goals as goal

pub returns : goal.returns
returns c = length-numeral-le
