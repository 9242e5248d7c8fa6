use Rattle.row_plan.proofs.Texts.{no_word}
use Rattle.row_plan.proofs.token.word.Goals as goal

pub returns-then-not-is_word : goal.returns-then-not-is_word
returns-then-not-is_word c = no_word c.args.stop c.args.token.now c.utf8.token (λ so. cc (c.is_word.ensures.1 so))
