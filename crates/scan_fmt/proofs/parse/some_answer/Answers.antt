use Rattle.scan_fmt.proofs.SomeAnswer.{some_answer}
use Rattle.scan_fmt.proofs.parse.some_answer.Goals as goal

pub returns : goal.returns
returns c = some_answer
