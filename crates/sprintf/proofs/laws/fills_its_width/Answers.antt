use Rattle.sprintf.proofs.Filled.{fills_its_width}
use Rattle.sprintf.proofs.laws.fills_its_width.Goals as goal

pub returns : goal.returns
returns c = fills_its_width
