use Rattle.std.proofs.Common.{◌≡◌, ◌++◌, ◌∷◌, [], ap, length, length-append, arith, rules}
use Rattle.whiteread.specs.Reading.Reach.{reached_read, reached_then}
use Rattle.whiteread.proofs.CallLemmas.{each_more, reached_each}
use Rattle.whiteread.proofs.adapters.LengthedFromStream.read.Goals as goal

pub values-preserved : goal.values-preserved
values-preserved g c =
    let grown : c.push.new.self.items ≡ c.values.values.items ++ c.in_ok-value.value ∷ [] = search rules in
    record {
      each = rw grown (each_more _ _ _ _ _ _ _ c.values.invariant.each c.in_ok-value.ensures);
      within = omega (arith, ap length grown, length-append c.values.values.items (c.in_ok-value.value ∷ []));
    }

pub returns-in_err-count : goal.returns-in_err-count
returns-in_err-count g c =
    let reached = reached_read _ _ _ _ _ c.read.ensures in
    search rules

pub returns-in_err-value : goal.returns-in_err-value
returns-in_err-value g c =
    let reached = reached_then _ _ _ _ (reached_read _ _ _ _ _ c.read.ensures) (reached_each _ _ _ _ _ _ _ _ c.values.invariant.each c.read_later.ensures) in
    search rules

pub returns-in_err-push : goal.returns-in_err-push
returns-in_err-push g c =
    let reached = reached_then _ _ _ _ (reached_read _ _ _ _ _ c.read.ensures) (reached_each _ _ _ _ _ _ _ _ c.values.invariant.each c.read_later.ensures) in
    search rules

pub returns : goal.returns
returns g c =
    let reached = reached_then _ _ _ _ (reached_read _ _ _ _ _ c.read.ensures) c.values.invariant.each.reached in
    search rules
