use Rattle.edge_io.specs.Supply.Laws.{adds_up}
use Rattle.edge_io.proofs.laws.reads_add_up.Goals as goal

pub returns : goal.returns
returns g c = adds_up g.S.Source.supply
