use Rattle.std.proofs.Common.{take}
use Rattle.columns.specs.Inner.Steps.{columns_of, kinds_of, AreStepsRead}
use Rattle.columns.proofs.row.read_steps.Given as goal

-- the steps so far are read, and what is left of the text stands behind them
abbrev pub invariant-steps : goal.invariant-steps
invariant-steps l = AreStepsRead (columns_of (take l.step-index l.steps)) (kinds_of (take l.step-index l.steps)) l.row l.text l.tokens.items l.rest
