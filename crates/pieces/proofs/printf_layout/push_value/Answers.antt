use Rattle.pieces.proofs.PrintfLemmas.{value_moves}
use Rattle.pieces.proofs.printf_layout.push_value.Goals as goal

pub returns : goal.returns
returns c = λ rest. value_moves c.args.kinds.now c.args.layout.now c.push_value.new.self rest c.args.place c.args.field.now c.in-Some.form c.in-Some.ensures c.in_ok-push_value.ensures
