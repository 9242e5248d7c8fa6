use Rattle.std.proofs.Common.{inl, inr, map, string_bytes}
use Rattle.line_job.specs.Ends.{source_seen, sink_seen}
use Rattle.rewriting.proofs.ReformatLemmas.{told_writes, told_completes}
use Rattle.plan_jobs.proofs.WrittenLemmas.{told_plans, told_scans, told_translates}
use Rattle.reformat.specs.Run.{input_limit}
use Rattle.reformat.proofs.CommandLemmas.{said, said_within, said_rewrite, said_plan, said_scan, said_translate, said_sample, said_leaves, summary_written}
use Rattle.reformat.proofs.command.run.Goals as goal

pub run_command-requires : goal.run_command-requires
run_command-requires g c = said_within (map string_bytes c.args.words.now) c.in-Some.command c.in-Some.ensures

pub returns-in-Some-clause-job : goal.returns-in-Some-clause-job
returns-in-Some-clause-job g c =
    said_rewrite (map string_bytes c.args.words.now) c.in-Some.command (source_seen g.S.Source.supply c.args.input.now c.run_command.new.input) (sink_seen g.K.Sink.held g.K.Sink.faults c.args.output.now c.run_command.new.output)
    (sink_seen g.E.Sink.held g.E.Sink.faults c.args.errors.now c.run_command.new.errors) c.run_command.result c.in-Some.ensures c.run_command.ensures.does

pub returns-in-Some-clause-rewritten : goal.returns-in-Some-clause-rewritten
returns-in-Some-clause-rewritten g c = λ words.
    told_writes input_limit (source_seen g.S.Source.supply c.args.input.now c.run_command.new.input) (sink_seen g.K.Sink.held g.K.Sink.faults c.args.output.now c.run_command.new.output)
    (sink_seen g.E.Sink.held g.E.Sink.faults c.args.errors.now c.run_command.new.errors) c.run_command.result (returns-in-Some-clause-job g c words)

pub returns-in-Some-clause-complete : goal.returns-in-Some-clause-complete
returns-in-Some-clause-complete g c = λ words.
    told_completes input_limit (source_seen g.S.Source.supply c.args.input.now c.run_command.new.input) (sink_seen g.K.Sink.held g.K.Sink.faults c.args.output.now c.run_command.new.output)
    (sink_seen g.E.Sink.held g.E.Sink.faults c.args.errors.now c.run_command.new.errors) c.run_command.result (returns-in-Some-clause-job g c words)

pub returns-in-Some-clause-plans : goal.returns-in-Some-clause-plans
returns-in-Some-clause-plans g c =
    said_plan (map string_bytes c.args.words.now) c.in-Some.command (source_seen g.S.Source.supply c.args.input.now c.run_command.new.input) (sink_seen g.K.Sink.held g.K.Sink.faults c.args.output.now c.run_command.new.output)
    (sink_seen g.E.Sink.held g.E.Sink.faults c.args.errors.now c.run_command.new.errors) c.run_command.result c.in-Some.ensures c.run_command.ensures.does

pub returns-in-Some-clause-planned : goal.returns-in-Some-clause-planned
returns-in-Some-clause-planned g c = λ words.
    told_plans input_limit (source_seen g.S.Source.supply c.args.input.now c.run_command.new.input) (sink_seen g.K.Sink.held g.K.Sink.faults c.args.output.now c.run_command.new.output)
    (sink_seen g.E.Sink.held g.E.Sink.faults c.args.errors.now c.run_command.new.errors) c.run_command.result (returns-in-Some-clause-plans g c words)

pub returns-in-Some-clause-scans : goal.returns-in-Some-clause-scans
returns-in-Some-clause-scans g c =
    said_scan (map string_bytes c.args.words.now) c.in-Some.command (source_seen g.S.Source.supply c.args.input.now c.run_command.new.input) (sink_seen g.K.Sink.held g.K.Sink.faults c.args.output.now c.run_command.new.output)
    (sink_seen g.E.Sink.held g.E.Sink.faults c.args.errors.now c.run_command.new.errors) c.run_command.result c.in-Some.ensures c.run_command.ensures.does

pub returns-in-Some-clause-scanned : goal.returns-in-Some-clause-scanned
returns-in-Some-clause-scanned g c = λ format words.
    told_scans format input_limit (source_seen g.S.Source.supply c.args.input.now c.run_command.new.input) (sink_seen g.K.Sink.held g.K.Sink.faults c.args.output.now c.run_command.new.output)
    (sink_seen g.E.Sink.held g.E.Sink.faults c.args.errors.now c.run_command.new.errors) c.run_command.result (returns-in-Some-clause-scans g c format words)

pub returns-in-Some-clause-translates : goal.returns-in-Some-clause-translates
returns-in-Some-clause-translates g c =
    said_translate (map string_bytes c.args.words.now) c.in-Some.command (source_seen g.S.Source.supply c.args.input.now c.run_command.new.input) (sink_seen g.K.Sink.held g.K.Sink.faults c.args.output.now c.run_command.new.output)
    (sink_seen g.E.Sink.held g.E.Sink.faults c.args.errors.now c.run_command.new.errors) c.run_command.result c.in-Some.ensures c.run_command.ensures.does

pub returns-in-Some-clause-translated : goal.returns-in-Some-clause-translated
returns-in-Some-clause-translated g c = λ target words.
    told_translates target input_limit (source_seen g.S.Source.supply c.args.input.now c.run_command.new.input) (sink_seen g.K.Sink.held g.K.Sink.faults c.args.output.now c.run_command.new.output)
    (sink_seen g.E.Sink.held g.E.Sink.faults c.args.errors.now c.run_command.new.errors) c.run_command.result (returns-in-Some-clause-translates g c target words)

pub returns-in-Some-clause-samples : goal.returns-in-Some-clause-samples
returns-in-Some-clause-samples g c = λ n small words. (
  said_leaves (map string_bytes c.args.words.now) c.in-Some.command c.args.input.now c.run_command.new.input c.in-Some.ensures c.run_command.ensures.leaves n words,
  said_sample (map string_bytes c.args.words.now) c.in-Some.command (source_seen g.S.Source.supply c.args.input.now c.run_command.new.input) (sink_seen g.K.Sink.held g.K.Sink.faults c.args.output.now c.run_command.new.output)
      (sink_seen g.E.Sink.held g.E.Sink.faults c.args.errors.now c.run_command.new.errors) c.run_command.result
      c.in-Some.ensures c.run_command.ensures.does n small words,
)

pub returns-in-Some-clause-sampled : goal.returns-in-Some-clause-sampled
returns-in-Some-clause-sampled g c = λ n small words zero.
    summary_written n (sink_seen g.K.Sink.held g.K.Sink.faults c.args.output.now c.run_command.new.output)
    (sink_seen g.E.Sink.held g.E.Sink.faults c.args.errors.now c.run_command.new.errors) c.run_command.result (returns-in-Some-clause-samples g c n small words).1 zero

pub returns-in-Some-clause-usage : goal.returns-in-Some-clause-usage
returns-in-Some-clause-usage g c = λ none. absurd (none (said (map string_bytes c.args.words.now) c.in-Some.command c.in-Some.ensures))

pub returns-in-None-clause-rewritten : goal.returns-in-None-clause-rewritten
returns-in-None-clause-rewritten g c = λ words. absurd (c.in-None.ensures (inl words))

pub returns-in-None-clause-job : goal.returns-in-None-clause-job
returns-in-None-clause-job g c = λ words. absurd (c.in-None.ensures (inl words))

pub returns-in-None-clause-complete : goal.returns-in-None-clause-complete
returns-in-None-clause-complete g c = λ words. absurd (c.in-None.ensures (inl words))

pub returns-in-None-clause-planned : goal.returns-in-None-clause-planned
returns-in-None-clause-planned g c = λ words. absurd (c.in-None.ensures (inr (inl words)))

pub returns-in-None-clause-plans : goal.returns-in-None-clause-plans
returns-in-None-clause-plans g c = λ words. absurd (c.in-None.ensures (inr (inl words)))

pub returns-in-None-clause-scanned : goal.returns-in-None-clause-scanned
returns-in-None-clause-scanned g c = λ format words. absurd (c.in-None.ensures (inr (inr (inl (format, words)))))

pub returns-in-None-clause-scans : goal.returns-in-None-clause-scans
returns-in-None-clause-scans g c = λ format words. absurd (c.in-None.ensures (inr (inr (inl (format, words)))))

pub returns-in-None-clause-translated : goal.returns-in-None-clause-translated
returns-in-None-clause-translated g c = λ target words. absurd (c.in-None.ensures (inr (inr (inr (inl (target, words))))))

pub returns-in-None-clause-translates : goal.returns-in-None-clause-translates
returns-in-None-clause-translates g c = λ target words. absurd (c.in-None.ensures (inr (inr (inr (inl (target, words))))))

pub returns-in-None-clause-sampled : goal.returns-in-None-clause-sampled
returns-in-None-clause-sampled g c = λ n small words. absurd (c.in-None.ensures (inr (inr (inr (inr (n, small, words))))))

pub returns-in-None-clause-samples : goal.returns-in-None-clause-samples
returns-in-None-clause-samples g c = λ n small words. absurd (c.in-None.ensures (inr (inr (inr (inr (n, small, words))))))
