use Rattle.std.proofs.Common.{ℕ, List, take, subst, arith}
use Rattle.std.specs.List.{AllByRecursion}
use Rattle.std.proofs.lemmas.List.{take_rest}
use Rattle.columns.specs.Inner.Shapes.{IsWordByte}
use Rattle.columns.proofs.Words.{all_behind_run}
use Rattle.columns.proofs.word.sure_len.Goals as goal

pub runs-preserved : goal.runs-preserved
runs-preserved c = record {
  within = omega (arith, c.sure_run-run.ensures.few, c.runs-test.true, c.runs.invariant.within);
  bytes = all_behind_run c.args.text.now c.args.stop c.runs.len c.sure_run-run.result c.runs.invariant.bytes
      (subst (λ (l : List ℕ). AllByRecursion (IsWordByte c.args.stop) (take c.sure_run-run.result l)) (take_rest c.args.text.now c.runs.len) c.sure_run-run.ensures.bytes);
}

pub returns-then-run-lt-LANES-clause-bytes : goal.returns-then-run-lt-LANES-clause-bytes
returns-then-run-lt-LANES-clause-bytes c =
    all_behind_run c.args.text.now c.args.stop c.runs.len c.sure_run-run.result c.runs.invariant.bytes
    (subst (λ (l : List ℕ). AllByRecursion (IsWordByte c.args.stop) (take c.sure_run-run.result l)) (take_rest c.args.text.now c.runs.len) c.sure_run-run.ensures.bytes)
