use Rattle.std.proofs.lemmas.Result.{err_from_is_err_and}
use Rattle.whiteread.specs.Reading.Tuples.{later}
use Rattle.whiteread.proofs.CallLemmas.{then_read, then_refused, then_refused_first}
use Rattle.whiteread.proofs.stream.tuples.Tuple3FromStream.read.Goals as goal

pub returns-in_err-a : goal.returns-in_err-a
returns-in_err-a g c =
    let p = err_from_is_err_and c.from_residual.result c.from_residual.ensures.1 in
    rw (p.1, p.2) (then_refused_first _ (λ all. (all.0, all.1)) (λ all. all.2) _ (later g.C.FromStream.reading) _ _ _ c.in_err-a.ensures)

pub returns-in_err-c : goal.returns-in_err-c
returns-in_err-c g c =
    let p = err_from_is_err_and c.from_residual-in_err-c.result c.from_residual-in_err-c.ensures.1 in
    rw (p.1, p.2) (then_refused _ (λ all. (all.0, all.1)) (λ all. all.2) _ _ _ _ _ _ _ c.in_ok-a.ensures c.in_err-c.ensures)

pub returns : goal.returns
returns g c = then_read _ (λ all. (all.0, all.1)) (λ all. all.2) _ _ _ _ _ _ c.in_ok-a.ensures c.in_ok-c.ensures
