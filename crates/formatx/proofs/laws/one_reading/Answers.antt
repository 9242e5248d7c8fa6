-- The law is a lemma.
use Rattle.formatx.proofs.ReadingLemmas as lemma
use Rattle.formatx.proofs.laws.one_reading.Goals as goal

pub returns : goal.returns
returns c = lemma.one_reading
