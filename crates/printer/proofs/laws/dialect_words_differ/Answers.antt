use Rattle.printer.proofs.LawLemmas as lemma
use Rattle.printer.proofs.laws.dialect_words_differ.Goals as goal

pub returns : goal.returns
returns c = lemma.dialect_words_differ
