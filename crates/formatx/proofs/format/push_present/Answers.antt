-- The name of the width fits, as each name in the specification does.
use Rattle.formatx.proofs.SpanLemmas.{parts_fit}
use Rattle.formatx.proofs.format.push_present.Goals as goal

pub width_of-requires : goal.width_of-requires
width_of-requires g c = (parts_fit c.args.input.now.source.now c.args.placeholder.now.spec c.requires.2).width
