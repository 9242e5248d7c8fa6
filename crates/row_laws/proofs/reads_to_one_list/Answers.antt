use Rattle.row_laws.proofs.OneList.{reads_to_one_list}
use Rattle.row_laws.proofs.reads_to_one_list.Goals as goal

pub returns : goal.returns
returns c = reads_to_one_list
