use Rattle.std.proofs.Common.{◌-◌, ◌∙◌, ℕ, ap}
use Rattle.line_job.specs.Ends.{source_seen, sink_seen}
use Rattle.rewriting.specs.Inner.State.{stage_of}
use Rattle.rewriting.proofs.ReformatLemmas.{rewrites, refuses}
use Rattle.rewriting.proofs.run.reformat.Goals as goal

pub returns-in-Ok : goal.returns-in-Ok
returns-in-Ok g c =
    rewrites c.args.limit (source_seen g.S.Source.supply c.args.input.now c.run_job.new.input) (sink_seen g.K.Sink.held g.K.Sink.faults c.args.output.now c.run_job.new.output) c.in-Ok.lines c.saturating_sub.result
    (stage_of c.new-job.result.state) (stage_of c.run_job.new.job.state) c.new-job.ensures.stage c.in-Ok.ensures.runs c.in-Ok.ensures.stands
    (c.saturating_sub.ensures ∙ ap (λ (n : ℕ). c.in-Ok.lines - n) c.headers.ensures)

pub returns : goal.returns
returns g c =
    refuses c.args.limit (source_seen g.S.Source.supply c.args.input.now c.run_job.new.input) (sink_seen g.K.Sink.held g.K.Sink.faults c.args.output.now c.run_job.new.output) c.in-Err.stop c.from.result
    (stage_of c.new-job.result.state) c.new-job.ensures.stage c.in-Err.ensures.runs c.from.ensures
