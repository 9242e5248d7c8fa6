use Rattle.printer.proofs.LawLemmas as lemma
use Rattle.printer.proofs.laws.prints_once.Goals as goal

pub returns : goal.returns
returns c = lemma.prints_once
