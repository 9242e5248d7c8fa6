use Rattle.scan_fmt.proofs.OneAnswer.{one_answer}
use Rattle.scan_fmt.proofs.parse.one_answer.Goals as goal

pub returns : goal.returns
returns c = one_answer
