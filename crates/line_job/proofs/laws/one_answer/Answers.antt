use Rattle.line_job.proofs.OneAnswer.{has_one_answer}
use Rattle.line_job.proofs.laws.one_answer.Goals as goal

pub returns : goal.returns
returns g c = has_one_answer g.J.LineJob.rules g.met.J.LineJob.clear
