use Rattle.std.proofs.Common.{ℕ, List, Option, ap, ◌∙◌}
use Rattle.printer.proofs.keys.PositionNames.place_of.Goals as goal

pub returns : goal.returns
returns c = c.position.ensures ∙ ap (λ (f : List ℕ → Option ℕ). f c.args.name.now) c.positions.ensures
