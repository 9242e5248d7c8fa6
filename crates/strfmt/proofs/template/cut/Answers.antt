use Rattle.std.proofs.Common.{rules, ◌≡◌, ◌++◌, ◌∷◌, [], List, subst, sym}
use Rattle.strfmt.specs.declared.template.Segment.{Segment}
use Rattle.strfmt.proofs.SegmentLemmas.{Cutting, cutting_more, cutting_end, cutting_wrong}
use Rattle.strfmt.proofs.template.cut.Goals as goal

pub segments-preserved : goal.segments-preserved
segments-preserved c =
    let items : c.push.new.self.items ≡ c.segments.segments.items ++ c.in-Segment.segment ∷ [] = search rules in
    let P : List Segment → Type 0 = λ ss. Cutting c.args.text.now ss c.in-Segment.after.now in
    subst P (sym items) (cutting_more _ _ _ _ _ c.segments.invariant (rw c.in-Segment.is at c.find.ensures))

pub returns-in-End : goal.returns-in-End
returns-in-End c = cutting_end _ _ _ c.segments.invariant (rw c.in-End.is at c.find.ensures)

pub returns-in-Wrong : goal.returns-in-Wrong
returns-in-Wrong c = cutting_wrong _ _ _ _ c.segments.invariant (rw c.in-Wrong.is at c.find.ensures)
