use Rattle.sprintf.proofs.ValueFaults.{carried_refuse_types}
use Rattle.sprintf.proofs.laws.carried_refuse_types.Goals as goal

pub returns : goal.returns
returns c = carried_refuse_types
