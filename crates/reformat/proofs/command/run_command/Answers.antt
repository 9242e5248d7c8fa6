use Rattle.std.proofs.Common.{sym, subst}
use Rattle.line_job.specs.Ends.{source_seen, sink_seen}
use Rattle.reformat.specs.declared.command.Command.{Command}
use Rattle.reformat.specs.Inner.Said.{Does}
use Rattle.reformat.proofs.command.run_command.Goals as goal

pub returns-in-Sample-clause-does : goal.returns-in-Sample-clause-does
returns-in-Sample-clause-does g c =
    subst (λ (command : Command). Does command (source_seen g.S.Source.supply c.args.input.now c.args.input.now) (sink_seen g.K.Sink.held g.K.Sink.faults c.args.output.now c.run_sample.new.output)
    (sink_seen g.E.Sink.held g.E.Sink.faults c.args.errors.now c.run_sample.new.errors) c.run_sample.result) (sym c.in-Sample.is) c.run_sample.ensures.sampled
