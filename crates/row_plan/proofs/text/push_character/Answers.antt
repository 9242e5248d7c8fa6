use Rattle.std.proofs.Common.{arith}
use Rattle.std.proofs.lemmas.Grind.{common_steps}
use Rattle.row_plan.proofs.Escaped.{escaped_same}
use Rattle.row_plan.proofs.text.push_character.Goals as goal

pub returns : goal.returns
returns c = rw (escaped_same c.args.character c.if-character-eq123.false c.if-character-eq125.false) (grind (arith, common_steps))
