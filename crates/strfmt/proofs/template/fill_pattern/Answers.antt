use Rattle.std.proofs.Common.{refl, inr}
use Rattle.strfmt.proofs.template.fill_pattern.Goals as goal

pub returns-clause-fills : goal.returns-clause-fills
returns-clause-fills g c =
    (refl, inr (c.f.new.arg2, record { shown = _; shows = c.fresh-formatter.ensures; left = _; called = rw c.in-Err.is at c.f.ensures; leaves = refl }))
