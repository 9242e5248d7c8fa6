use Rattle.sprintf.proofs.Uniqueness.{one_element_list}
use Rattle.sprintf.proofs.laws.one_element_list.Goals as goal

pub returns : goal.returns
returns c = one_element_list
