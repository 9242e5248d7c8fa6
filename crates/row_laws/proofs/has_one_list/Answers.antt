use Rattle.row_laws.proofs.Fields.{field_reads}
use Rattle.row_laws.proofs.Reading.{has_one_list_from}
use Rattle.row_laws.proofs.has_one_list.Goals as goal

pub returns : goal.returns
returns c = has_one_list_from field_reads
