use Rattle.strfmt.proofs.CutLemmas.{plain_boundary_at}
use Rattle.pieces.proofs.strfmt_layout.split_plain.Goals as goal

pub split_at-requires : goal.split_at-requires
split_at-requires c = plain_boundary_at _ _ c.utf8.text (rw c.as_bytes.ensures.value at c.find_brace.ensures.within) (rw c.as_bytes.ensures.value at c.find_brace.ensures.front)
