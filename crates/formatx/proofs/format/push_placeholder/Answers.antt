-- The name of the precision fits, as each name in the specification does.
use Rattle.formatx.proofs.SpanLemmas.{parts_fit}
use Rattle.formatx.proofs.format.push_placeholder.Goals as goal

pub precision_of-requires : goal.precision_of-requires
precision_of-requires g c = (parts_fit c.args.input.now.source.now c.args.placeholder.now.spec c.requires.fits.2).precision
