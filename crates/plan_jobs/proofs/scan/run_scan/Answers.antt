use Rattle.std.proofs.Common.{◌≡◌, ℕ, List, arith, subst}
use Rattle.line_job.specs.Ends.{source_seen, sink_seen}
use Rattle.line_job.specs.Told.{RunsTold}
use Rattle.header_lines.specs.Message.{cause_message}
use Rattle.plan_jobs.specs.Scan.{scan_rules}
use Rattle.plan_jobs.proofs.NoMemory.{tells_no_memory}
use Rattle.plan_jobs.proofs.WrittenLemmas.{told_scans}
use Rattle.plan_jobs.proofs.scan.run_scan.Goals as goal

pub returns-in-Ok-clause-scanned : goal.returns-in-Ok-clause-scanned
returns-in-Ok-clause-scanned g c =
    let told : RunsTold scan_rules (record { format = c.args.format.now }) cause_message c.args.limit (source_seen g.S.Source.supply c.args.input.now c.run_told.new.input) (sink_seen g.K.Sink.held g.K.Sink.faults c.args.output.now c.run_told.new.output)
    (sink_seen g.E.Sink.held g.E.Sink.faults c.args.errors.now c.run_told.new.errors) c.run_told.result =
    subst (λ (t : List ℕ). RunsTold scan_rules (record { format = t }) cause_message c.args.limit (source_seen g.S.Source.supply c.args.input.now c.run_told.new.input) (sink_seen g.K.Sink.held g.K.Sink.faults c.args.output.now c.run_told.new.output)
    (sink_seen g.E.Sink.held g.E.Sink.faults c.args.errors.now c.run_told.new.errors) c.run_told.result) c.in-Ok.ensures.text c.run_told.ensures.told in
    told_scans c.args.format.now c.args.limit (source_seen g.S.Source.supply c.args.input.now c.run_told.new.input) (sink_seen g.K.Sink.held g.K.Sink.faults c.args.output.now c.run_told.new.output)
    (sink_seen g.E.Sink.held g.E.Sink.faults c.args.errors.now c.run_told.new.errors) c.run_told.result told

pub returns-in-Err-clause-scanned : goal.returns-in-Err-clause-scanned
returns-in-Err-clause-scanned g c = λ zero. (let six : c.tell_no_memory.result ≡ 6 = c.tell_no_memory.ensures.status in absurd (omega (arith, six, zero)))

pub returns-in-Err-clause-told : goal.returns-in-Err-clause-told
returns-in-Err-clause-told g c =
    tells_no_memory scan_rules (record { format = c.args.format.now }) cause_message c.args.limit _ _ _ c.tell_no_memory.result c.tell_no_memory.ensures.status c.tell_no_memory.ensures.told

pub returns-in-Err-clause-quiet : goal.returns-in-Err-clause-quiet
returns-in-Err-clause-quiet g c = λ zero. (let six : c.tell_no_memory.result ≡ 6 = c.tell_no_memory.ensures.status in absurd (omega (arith, six, zero)))
