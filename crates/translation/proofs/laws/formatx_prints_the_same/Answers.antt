use Rattle.translation.proofs.FormatxLaw.{prints_formatx}
use Rattle.translation.proofs.laws.formatx_prints_the_same.Goals as goal

pub returns : goal.returns
returns c = prints_formatx c.numeral_is_std.ensures
