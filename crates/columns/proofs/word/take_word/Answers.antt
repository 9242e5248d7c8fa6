use Rattle.std.proofs.Common.{arith}
use Rattle.columns.proofs.Words.{word_taken}
use Rattle.columns.proofs.word.take_word.Goals as goal

pub returns-in-empty : goal.returns-in-empty
returns-in-empty c =
    word_taken c.args.text.now c.word_len-len.result c.args.stop c.requires c.word_len-len.ensures.bytes c.word_len-len.ensures.within c.if-len-eq0.false c.if-len-gt-LONGEST.false (λ some. absurd (omega (arith, some, c.in-empty.len_below)))

pub returns-in-0-to-127 : goal.returns-in-0-to-127
returns-in-0-to-127 c =
    word_taken c.args.text.now c.word_len-len.result c.args.stop c.requires c.word_len-len.ensures.bytes c.word_len-len.ensures.within c.if-len-eq0.false c.if-len-gt-LONGEST.false (λ some. omega arith)
