-- Both texts begin between characters.
use Rattle.formatx.proofs.EndLemmas.{fits_between}
use Rattle.formatx.proofs.parser.span_between.Goals as goal

pub returns-clause-fits : goal.returns-clause-fits
returns-clause-fits c = fits_between c.requires.from c.requires.to c.utf8.from c.utf8.to
