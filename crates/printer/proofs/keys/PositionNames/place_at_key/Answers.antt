use Rattle.std.proofs.Common.{ℕ, List, Option, ap, ◌∙◌}
use Rattle.printer.specs.Keys.{first_of}
use Rattle.printer.proofs.keys.PositionNames.place_at_key.Goals as goal

pub returns : goal.returns
returns c = (
  c.read_decimal.result,
  c.read_decimal.ensures,
  c.first_of.ensures ∙ ap (first_of c.read_decimal.result) (c.position.ensures ∙ ap (λ (f : List ℕ → Option ℕ). f c.args.key.now) c.positions.ensures),
)
