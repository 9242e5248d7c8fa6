use Rattle.strfmt.proofs.ReadLemmas.{read_some, read_once}
use Rattle.strfmt.proofs.laws.pattern_reads_once.Goals as goal

pub returns : goal.returns
returns c = record { some = read_some; once = read_once }
