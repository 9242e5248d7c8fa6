use Rattle.std.proofs.Common.{ap, refl, Some}
use Rattle.edge_io.specs.Memory.{sink_held}
use Rattle.sample_job.proofs.SummaryLemmas.{holds_rewritten}
use Rattle.sample_job.proofs.summary.rewritten_of.Goals as goal

pub returns-in-Ok : goal.returns-in-Ok
returns-in-Ok c = holds_rewritten c.args.bytes.items (sink_held c.reformat.new.output) _ _ _ _ (ap Some c.new-input.ensures.rest) (ap Some c.in_ok-output.ensures) refl c.in-Ok.ensures
