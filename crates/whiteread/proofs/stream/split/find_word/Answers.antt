use Rattle.std.proofs.Common.{◌+◌, arith}
use Rattle.whiteread.specs.Words.{is_blank}
use Rattle.whiteread.proofs.FoundLemmas.{found, none_past, Found, count_from, word_byte}
use Rattle.whiteread.proofs.stream.split.find_word.Goals as goal

places : (c : goal.After-word_len) → Found c.args.text.now c.args.from (c.args.from + c.blanks_len.result) (c.args.from + c.blanks_len.result + c.word_len.result)
places c = found c.args.text.now c.args.from _ _ c.utf8.text (omega arith) (c.requires (omega arith))
    (count_from is_blank c.as_bytes-bytes.result.now c.args.text.now c.args.from c.blanks_len.result c.as_bytes-bytes.ensures.value c.blanks_len.ensures)
    (count_from word_byte c.as_bytes-bytes.result.now c.args.text.now (c.args.from + c.blanks_len.result) c.word_len.result c.as_bytes-bytes.ensures.value c.word_len.ensures)

pub returns-then-from-text-clause-none : goal.returns-then-from-text-clause-none
returns-then-from-text-clause-none c = λ _. none_past c.args.text.now c.args.from (omega arith)

pub returns-clause-word : goal.returns-clause-word
returns-clause-word c = (places c).word

pub returns-clause-none : goal.returns-clause-none
returns-clause-none c = (places c).none

pub returns-clause-begins : goal.returns-clause-begins
returns-clause-begins c = λ _. (places c).begins

pub returns-clause-ends : goal.returns-clause-ends
returns-clause-ends c = λ _. (places c).ends
