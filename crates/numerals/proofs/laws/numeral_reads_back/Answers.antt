use Rattle.numerals.proofs.Reading.{numeral_reads}
use Rattle.numerals.proofs.laws.numeral_reads_back.Goals as goal

pub returns : goal.returns
returns c = numeral_reads
