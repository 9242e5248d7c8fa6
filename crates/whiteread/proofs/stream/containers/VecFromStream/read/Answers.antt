use Rattle.std.proofs.Common.{rules, ◌≡◌, ◌++◌, ◌∷◌, []}
use Rattle.whiteread.proofs.CallLemmas.{each_more, reached_each}
use Rattle.whiteread.proofs.stream.containers.VecFromStream.read.Goals as goal

pub values-preserved : goal.values-preserved
values-preserved g c =
    let grown : c.push.new.self.items ≡ c.values.values.items ++ c.in-Ok.value ∷ [] = search rules in
    rw grown (each_more _ _ _ _ _ _ _ c.values.invariant c.in-Ok.ensures)

pub returns-in-Err : goal.returns-in-Err
returns-in-Err g c =
    let reached = reached_each _ _ _ _ _ _ _ _ c.values.invariant c.read.ensures in
    search rules

pub returns-in-Err-TooShort-Nothing : goal.returns-in-Err-TooShort-Nothing
returns-in-Err-TooShort-Nothing g c =
    let reached = reached_each _ _ _ _ _ _ _ _ c.values.invariant c.read.ensures in
    search rules

pub returns-in_err-push-in-Ok : goal.returns-in_err-push-in-Ok
returns-in_err-push-in-Ok g c =
    let reached = reached_each _ _ _ _ _ _ _ _ c.values.invariant c.read.ensures in
    search rules
