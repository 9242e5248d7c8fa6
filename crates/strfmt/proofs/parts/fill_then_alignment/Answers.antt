use Rattle.std.proofs.Common.{rules}
use Rattle.strfmt.proofs.PartLemmas.{no_fill_at}
use Rattle.strfmt.proofs.parts.fill_then_alignment.Goals as goal

pub returns-in-None-default : goal.returns-in-None-default
returns-in-None-default c = no_fill_at c.args.text.now c.in_ok-fill.after.now _ c.in_ok-fill.fill (search rules) (rw (c.in-None-default.is-0, c.as_bytes.ensures.value) at c.alignment.ensures)
