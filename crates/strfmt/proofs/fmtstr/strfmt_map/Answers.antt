use Rattle.std.proofs.Common.{inl, inr}
use Rattle.strfmt.proofs.fmtstr.strfmt_map.Goals as goal

pub returns-clause-err : goal.returns-clause-err
returns-clause-err g c = elim c.in-Err.ensures.err [ inl memory ↦ inl memory | inr walk ↦ inr (c.fill.new.f, rw c.in_ok-template.ensures at walk) ]
