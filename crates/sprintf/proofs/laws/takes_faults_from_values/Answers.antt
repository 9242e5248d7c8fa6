use Rattle.sprintf.proofs.ValueFaults.{takes_faults_from_values}
use Rattle.sprintf.proofs.laws.takes_faults_from_values.Goals as goal

pub returns : goal.returns
returns c = takes_faults_from_values
