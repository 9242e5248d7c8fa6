use Rattle.std.proofs.Common.{◌≡◌, ◌++◌, ◌∷◌, [], arith, rules}
use Rattle.std.proofs.lemmas.List.Elements.{All-append, All-cons, All-nil}
use Rattle.std.proofs.lemmas.Bool.{both_ways}
use Rattle.whiteread.proofs.CallLemmas.{each_more, later_value, to_zero_read, to_zero_refused}
use Rattle.std.proofs.lemmas.Result.{err_from_is_err_and}
use Rattle.whiteread.specs.Reading.Reach.{reached_read}
use Rattle.whiteread.proofs.adapters.ZeroedFromStream.read.Goals as goal

pub values-preserved : goal.values-preserved
values-preserved g c =
    let grown : c.push.new.self.items ≡ c.values.values.items ++ c.values.value ∷ [] = search rules in
    let zero = g.T.IsZero.zero in
    let some : ¬ (zero c.values.value) = λ is. both_ways c.is_zero.result (search rules) (c.is_zero.ensures.1 is) in
    record {
      each = rw grown (each_more _ _ _ _ _ _ _ c.values.invariant.each (later_value _ _ _ _ _ c.in_ok-value-2.ensures));
      some = rw grown (All-append (λ item. ¬ (zero item)) c.values.values.items (c.values.value ∷ []) c.values.invariant.some (All-cons (λ item. ¬ (zero item)) c.values.value [] some (All-nil (λ item. ¬ (zero item)))));
      least = omega (arith, c.values.invariant.least, c.in_ok-value-2.ensures.bound);
    }

pub returns : goal.returns
returns g c =
    to_zero_read _ (λ values. values.0.items) g.T.IsZero.zero g.T.FromStream.reading c.args.it.now c.values.it (record { 0 = c.values.values }) c.values.value
    c.values.invariant.some (c.is_zero.ensures.0 (search rules)) c.values.invariant.each c.values.invariant.least

pub returns-in_err-value : goal.returns-in_err-value
returns-in_err-value g c =
    let reached = reached_read _ _ _ _ _ c.read.ensures in
    search rules

pub values-init : goal.values-init
values-init g c =
    let reached = reached_read _ _ _ _ _ c.read.ensures in
    search rules

pub returns-in_err-value-2 : goal.returns-in_err-value-2
returns-in_err-value-2 g c =
    let p = err_from_is_err_and c.from_residual-in_err-value-2.result c.from_residual-in_err-value-2.ensures.1 in
    let zero = g.T.IsZero.zero in
    let some : ¬ (zero c.values.value) = λ is. both_ways c.is_zero.result (search rules) (c.is_zero.ensures.1 is) in
    rw (p.1, p.2)
    (to_zero_refused _ (λ values. values.0.items) zero g.T.FromStream.reading _ _ _ c.values.values.items c.values.value _
    (All-append (λ item. ¬ (zero item)) c.values.values.items (c.values.value ∷ []) c.values.invariant.some (All-cons (λ item. ¬ (zero item)) c.values.value [] some (All-nil (λ item. ¬ (zero item)))))
    c.values.invariant.each c.in_err-value-2.ensures)
