use Rattle.strfmt.proofs.CutUnique.{prints_some, prints_once}
use Rattle.strfmt.proofs.laws.text_prints_once.Goals as goal

pub returns : goal.returns
returns c = record { some = prints_some; once = prints_once }
