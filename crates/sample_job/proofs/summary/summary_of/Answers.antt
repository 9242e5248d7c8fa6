use Rattle.std.proofs.Common.{ℕ, List, ap, ◌∙◌, subst}
use Rattle.edge_io.specs.Memory.{sink_held}
use Rattle.rewriting.specs.Rewritten.{IsRewritten}
use Rattle.sample_job.specs.Summary.{summary}
use Rattle.sample_job.proofs.summary.summary_of.Goals as goal

pub returns-in-Ok : goal.returns-in-Ok
returns-in-Ok c = (
  sink_held c.in_ok-sink.sink,
  subst (λ (bytes : List ℕ). IsRewritten bytes (sink_held c.in_ok-sink.sink)) c.in_ok-bytes.ensures c.in_ok-sink.ensures,
  c.in-Ok.ensures ∙ ap (summary c.args.n) c.bytes.ensures,
)
