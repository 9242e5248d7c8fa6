use Rattle.std.proofs.Common.{ℕ, List, take, subst}
use Rattle.std.specs.List.{AllByRecursion}
use Rattle.std.proofs.lemmas.List.{take_rest}
use Rattle.columns.specs.Inner.Shapes.{IsWordByte}
use Rattle.columns.proofs.Words.{all_behind_run}
use Rattle.columns.proofs.word.word_len.Goals as goal

pub returns-clause-bytes : goal.returns-clause-bytes
returns-clause-bytes c =
    all_behind_run c.args.text.now c.args.stop c.sure_len-sure.result c.rest_len.result c.sure_len-sure.ensures.bytes
    (subst (λ (l : List ℕ). AllByRecursion (IsWordByte c.args.stop) (take c.rest_len.result l)) (take_rest c.args.text.now c.sure_len-sure.result) c.rest_len.ensures.bytes)
