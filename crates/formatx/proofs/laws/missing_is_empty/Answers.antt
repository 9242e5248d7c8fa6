-- The law is a lemma.
use Rattle.formatx.proofs.LawLemmas as lemma
use Rattle.formatx.proofs.laws.missing_is_empty.Goals as goal

pub returns : goal.returns
returns c = lemma.missing_is_empty
