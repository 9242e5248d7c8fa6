use Rattle.std.proofs.Common.{subst}
use Rattle.line_job.specs.Ends.{source_seen, sink_seen}
use Rattle.line_job.specs.Told.{RunsTold}
use Rattle.header_lines.specs.Message.{cause_message}
use Rattle.rewriting.specs.Rules.{Stage, rewrite_rules}
use Rattle.rewriting.proofs.ReformatLemmas.{told_writes, told_completes}
use Rattle.rewriting.proofs.run.run_rewrite.Goals as goal

pub returns-clause-told : goal.returns-clause-told
returns-clause-told g c =
    subst (λ (s : Stage). RunsTold rewrite_rules s cause_message c.args.limit (source_seen g.S.Source.supply c.args.input.now c.run_told.new.input) (sink_seen g.K.Sink.held g.K.Sink.faults c.args.output.now c.run_told.new.output)
    (sink_seen g.E.Sink.held g.E.Sink.faults c.args.errors.now c.run_told.new.errors) c.run_told.result) c.new-job.ensures.stage c.run_told.ensures.told

pub returns-clause-rewritten : goal.returns-clause-rewritten
returns-clause-rewritten g c =
    told_writes c.args.limit (source_seen g.S.Source.supply c.args.input.now c.run_told.new.input) (sink_seen g.K.Sink.held g.K.Sink.faults c.args.output.now c.run_told.new.output)
    (sink_seen g.E.Sink.held g.E.Sink.faults c.args.errors.now c.run_told.new.errors) c.run_told.result (returns-clause-told g c)

pub returns-clause-complete : goal.returns-clause-complete
returns-clause-complete g c =
    told_completes c.args.limit (source_seen g.S.Source.supply c.args.input.now c.run_told.new.input) (sink_seen g.K.Sink.held g.K.Sink.faults c.args.output.now c.run_told.new.output)
    (sink_seen g.E.Sink.held g.E.Sink.faults c.args.errors.now c.run_told.new.errors) c.run_told.result (returns-clause-told g c)
