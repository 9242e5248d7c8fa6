use Rattle.header_lines.proofs.ClearHeaders.{header_lines_are_clear}
use Rattle.header_lines.proofs.laws.header_lines_are_clear.Goals as goal

pub returns : goal.returns
returns c = header_lines_are_clear
