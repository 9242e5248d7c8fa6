use Rattle.separation.proofs.Greatest.{table_is_right}
use Rattle.separation.proofs.laws.greatest_lengths.Goals as goal

pub returns : goal.returns
returns c = table_is_right
