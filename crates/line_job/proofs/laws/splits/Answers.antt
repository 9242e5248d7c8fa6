use Rattle.line_job.proofs.Splitting.{rules_split}
use Rattle.line_job.proofs.laws.splits.Goals as goal

pub returns : goal.returns
returns g c = rules_split g.J.LineJob.rules g.met.J.LineJob.clear
