-- The law is a lemma.
use Rattle.formatx.proofs.LawLemmas as lemma
use Rattle.formatx.proofs.laws.finishes_agree.Goals as goal

pub returns : goal.returns
returns c = lemma.finishes_agree
