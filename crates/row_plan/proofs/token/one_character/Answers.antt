use Rattle.row_plan.proofs.OneCharacter.{one_char}
use Rattle.row_plan.proofs.token.one_character.Goals as goal

pub returns : goal.returns
returns c = one_char c.args.token.now c.read_slice.result c.utf8.token c.read_slice.ensures
