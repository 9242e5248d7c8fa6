use Rattle.strfmt.proofs.CutLemmas.{scanned_none, scanned_more}
use Rattle.pieces.proofs.strfmt_layout.find_brace.Goals as goal

pub bytes-init : goal.bytes-init
bytes-init c = scanned_none c.args.text.now

pub bytes-preserved : goal.bytes-preserved
bytes-preserved c = scanned_more _ _ _ _ _ c.bytes.invariant c.in-Some.ensures.cases.0 c.if-first-eq123.false c.if-first-eq125.false
