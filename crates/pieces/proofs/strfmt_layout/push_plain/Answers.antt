use Rattle.pieces.proofs.StrfmtLemmas.{plain_moves}
use Rattle.pieces.proofs.strfmt_layout.push_plain.Goals as goal

pub returns-clause-moves : goal.returns-clause-moves
returns-clause-moves c = plain_moves c.args.names.now c.args.kinds.now c.args.layout.now c.push_text.new.self c.args.text.now c.split_plain.result.0.now c.split_plain.result.1.now c.split_plain.ensures c.in_ok-push_text.ensures
