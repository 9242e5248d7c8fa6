use Rattle.strfmt.proofs.SegmentLemmas.{found_pattern}
use Rattle.strfmt.proofs.template.find_at_brace.Goals as goal

pub returns-in-Pattern : goal.returns-in-Pattern
returns-in-Pattern c = found_pattern c.args.text.now c.in-Pattern.inner.now c.in-Pattern.after.now c.find_pattern.result (rw c.in-Pattern.is at c.look.ensures) c.find_pattern.ensures
