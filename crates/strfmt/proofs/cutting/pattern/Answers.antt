use Rattle.std.proofs.Common.{rules}
use Rattle.strfmt.proofs.CutLemmas.{unclosed_is}
use Rattle.strfmt.proofs.cutting.pattern.Goals as goal

pub returns-then-is_empty : goal.returns-then-is_empty
returns-then-is_empty c = unclosed_is _ _ _ c.split_plain.ensures (search rules)
