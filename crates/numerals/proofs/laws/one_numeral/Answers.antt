use Rattle.numerals.proofs.Unique.{numeral_iff}
use Rattle.numerals.proofs.laws.one_numeral.Goals as goal

pub returns : goal.returns
returns c = numeral_iff
