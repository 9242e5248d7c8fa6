use Rattle.row_format.proofs.Printing.{prints}
use Rattle.row_format.proofs.laws.prints_columns.Goals as goal

pub returns : goal.returns
returns c = prints
