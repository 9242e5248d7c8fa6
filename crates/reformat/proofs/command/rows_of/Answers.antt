use Rattle.std.proofs.Common.{arith}
use Rattle.reformat.proofs.CommandLemmas.{no_rows, too_many_rows, rows_said}
use Rattle.reformat.proofs.command.rows_of.Goals as goal

pub returns-in_err-rows : goal.returns-in_err-rows
returns-in_err-rows c = rw c.from_residual.ensures (no_rows c.args.word.now c.in_err-rows.ensures)

pub returns-then-rows-gt-SAMPLE_LIMIT : goal.returns-then-rows-gt-SAMPLE_LIMIT
returns-then-rows-gt-SAMPLE_LIMIT c = too_many_rows c.args.word.now c.in_ok-rows.rows c.in_ok-rows.ensures (omega arith)

pub returns : goal.returns
returns c = (omega arith, rows_said c.args.word.now c.in_ok-rows.rows c.in_ok-rows.ensures (omega arith))
