use Rattle.line_job.specs.Ends.{source_seen, sink_seen}
use Rattle.plan_jobs.proofs.WrittenLemmas.{told_translates}
use Rattle.plan_jobs.proofs.translate.run_translate.Goals as goal

pub returns-clause-translated : goal.returns-clause-translated
returns-clause-translated g c =
    told_translates c.args.target c.args.limit (source_seen g.S.Source.supply c.args.input.now c.run_told.new.input) (sink_seen g.K.Sink.held g.K.Sink.faults c.args.output.now c.run_told.new.output)
    (sink_seen g.E.Sink.held g.E.Sink.faults c.args.errors.now c.run_told.new.errors) c.run_told.result c.run_told.ensures.told
