use Rattle.numerals.proofs.Reading.{numeral-text_value}
use Rattle.numerals.proofs.laws.numeral_of_value.Goals as goal

pub returns : goal.returns
returns c = numeral-text_value
