use Rattle.reader_laws.proofs.GoodLemmas.{no_fault}
use Rattle.reader_laws.proofs.laws.no_fault_over_good_input.Goals as goal

pub returns : goal.returns
returns g c = no_fault g.S.Source.supply g.T.FromStream.reading g.T.FromStream.REQUEST_CHEAP_ERROR
