use Rattle.translation.proofs.StrfmtLaw.{prints_strfmt}
use Rattle.translation.proofs.laws.strfmt_prints_the_same.Goals as goal

pub returns : goal.returns
returns c = prints_strfmt c.numeral_is_std.ensures
