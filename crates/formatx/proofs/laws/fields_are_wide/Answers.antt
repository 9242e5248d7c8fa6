-- The law is a lemma.
use Rattle.formatx.proofs.WidthLemmas as lemma
use Rattle.formatx.proofs.laws.fields_are_wide.Goals as goal

pub returns : goal.returns
returns c = lemma.fields_are_wide
