use Rattle.std.proofs.Common.{inl, inr, refl}
use Rattle.header_lines.proofs.KindWords.{no_kinds}
use Rattle.header_lines.proofs.headers.read_kinds.Goals as goal

pub returns-in-Err-Unknown-clause-refused : goal.returns-in-Err-Unknown-clause-refused
returns-in-Err-Unknown-clause-refused c = elim c.in-Err-Unknown.ensures.unknown [
  | inl first ↦ (no_kinds _ _ first, refl)
  | inr none ↦ absurd (cc)
]
