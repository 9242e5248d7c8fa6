use Rattle.row_laws.proofs.Fields.{field_reads}
use Rattle.row_laws.proofs.Reading.{reads_back_from}
use Rattle.row_laws.proofs.reads_back.Goals as goal

pub returns : goal.returns
returns c = reads_back_from field_reads
