use Rattle.whiteread.specs.Lines.Laws.{first_line}
use Rattle.whiteread.proofs.laws.a_line_is_the_next.Goals as goal

pub returns : goal.returns
returns c = first_line
