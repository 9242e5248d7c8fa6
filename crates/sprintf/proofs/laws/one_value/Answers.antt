use Rattle.sprintf.proofs.Uniqueness.{one_value}
use Rattle.sprintf.proofs.laws.one_value.Goals as goal

pub returns : goal.returns
returns c = one_value
