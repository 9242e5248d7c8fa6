use Rattle.std.proofs.Common.{◌≡◌, ◌++◌, [], ◌∷◌, ◌+◌, take, rules, List, sym, subst}
use Rattle.columns.specs.Inner.Steps.{columns_of, kinds_of, AreStepsRead}
use Rattle.tokens.specs.declared.Token.{Token}
use Rattle.columns.proofs.Rows.{served_at, steps_more}
use Rattle.columns.proofs.row.read_steps.Goals as goal

pub read-requires-clause-served : goal.read-requires-clause-served
read-requires-clause-served c = served_at c.args.steps.now c.steps.step-index c.step-item.result c.requires.served c.steps-test.true c.step-item.is

pub steps-preserved : goal.steps-preserved
steps-preserved c =
    let pushed : c.push.new.self.items ≡ c.steps.tokens.items ++ c.in-Some.token ∷ [] = search rules in
    subst (λ (tokens : List Token). AreStepsRead (columns_of (take (c.steps.step-index + 1) c.args.steps.now)) (kinds_of (take (c.steps.step-index + 1) c.args.steps.now)) c.args.row.now c.args.text.now tokens c.in-Some.later.now) (sym pushed)
    (steps_more c.args.steps.now c.steps.step-index c.step-item.result c.args.row.now c.args.text.now c.steps.tokens.items c.steps.rest.now c.in-Some.token c.in-Some.later.now c.steps-test.true c.step-item.is c.steps.invariant c.in-Some.ensures)
