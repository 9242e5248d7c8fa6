use Rattle.std.proofs.Common.{◌≡◌, sym, subst, Bool, true, false, string_bytes, ℕ, Ok, Err}
use Rattle.whiteread.specs.ReaderState.{reader_line}
use Rattle.line_job.specs.declared.stop.Stop.TheVariants.{NotUtf8}
use Rattle.line_job.specs.Inner.NextLine.{NextLine, Took}
use Rattle.line_job.specs.Inner.Step.{LineStep}
use Rattle.line_job.proofs.StepLemmas.{step_passed, step_not_utf8, not_utf8}
use Rattle.line_job.proofs.engine.take_line.Goals as goal

pub returns-then-not-judges-clause-step : goal.returns-then-not-judges-clause-step
returns-then-not-judges-clause-step g c =
    let took : Took g.B.Source.supply c.args.before c.args.reader.now c.next_line.new.reader (reader_line c.next_line.new.reader) =
    subst (λ (b : Bool). NextLine g.B.Source.supply c.args.before c.args.reader.now (Ok b) c.next_line.new.reader) c.in-Ok-true.field-0-test c.in-Ok-true.ensures.step in
    let passed : g.J.LineJob.rules.judges (g.J.LineJob.stage c.args.job.now) ≡ false = cc in
    step_passed g.B.Source.supply g.J.LineJob.rules c.args.before c.args.reader.now c.next_line.new.reader (g.J.LineJob.stage c.args.job.now) (string_bytes c.args.batch.now) (reader_line c.next_line.new.reader) took passed

pub returns-then-not-judges-2-clause-step : goal.returns-then-not-judges-2-clause-step
returns-then-not-judges-2-clause-step g c =
    let passed : g.J.LineJob.rules.judges (g.J.LineJob.stage c.args.job.now) ≡ false = cc in
    let next = not_utf8 g.B.Source.supply c.args.before _ c.args.reader.now c.next_line.new.reader c.in-Err-NotUtf8.field-0 c.in-Err-NotUtf8.field-0-is c.in-Err-NotUtf8.ensures.step in
    step_passed g.B.Source.supply g.J.LineJob.rules c.args.before c.args.reader.now c.next_line.new.reader (g.J.LineJob.stage c.args.job.now) (string_bytes c.args.batch.now) next.0 next.1 passed

pub returns-else-not-judges-2-clause-step : goal.returns-else-not-judges-2-clause-step
returns-else-not-judges-2-clause-step g c =
    let judges : g.J.LineJob.rules.judges (g.J.LineJob.stage c.args.job.now) ≡ true = cc in
    let next = not_utf8 g.B.Source.supply c.args.before _ c.args.reader.now c.next_line.new.reader c.in-Err-NotUtf8.field-0 c.in-Err-NotUtf8.field-0-is c.in-Err-NotUtf8.ensures.step in
    subst (λ (n : ℕ). LineStep g.B.Source.supply g.J.LineJob.rules c.args.before c.args.reader.now c.next_line.new.reader (g.J.LineJob.stage c.args.job.now) (g.J.LineJob.stage c.args.job.now) (string_bytes c.args.batch.now) (string_bytes c.args.batch.now) (Err (NotUtf8 n))) (sym c.in-Err-NotUtf8.line-is)
    (step_not_utf8 g.B.Source.supply g.J.LineJob.rules c.args.before c.in-Err-NotUtf8.line c.args.reader.now c.next_line.new.reader (g.J.LineJob.stage c.args.job.now) (g.J.LineJob.stage c.args.job.now) (string_bytes c.args.batch.now) next judges)
