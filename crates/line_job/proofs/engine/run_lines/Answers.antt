use Rattle.std.proofs.Common.{◌≡◌, ◌∙◌, ap, sym, subst, ℕ, Bool, true, false, Result, Ok, Err, rules, string_bytes}
use Rattle.whiteread.specs.ReaderState.{reader_source}
use Rattle.line_job.specs.declared.stop.Stop.{Stop}
use Rattle.line_job.specs.declared.stop.Stop.TheVariants.{WriteFault}
use Rattle.line_job.specs.Inner.Goes.{Goes, LeadsTo, Ends, first_place, view_of, ends_of}
use Rattle.line_job.specs.Inner.Step.{LineStep}
use Rattle.line_job.proofs.EndLemmas.{always}
use Rattle.line_job.proofs.StepLemmas.{goes_due, goes_undue, goes_step, goes_end, goes_stopped, left_falls, leads_due, leads_step, leads_end, never_ok}
use Rattle.line_job.proofs.engine.run_lines.Goals as goal

pub returns-in_err-send_if_due-clause-goes : goal.returns-in_err-send_if_due-clause-goes
returns-in_err-send_if_due-clause-goes g c =
    let ends : Ends g.row.B.Denot g.row.K.Denot = ends_of g.B.Source.supply g.K.Sink.held g.K.Sink.faults in
    let is : c.from_residual.result ≡ Err WriteFault = search rules in
    subst (λ (r : Result ℕ (Stop g.row.J-Why.Denot)). Goes ends g.J.LineJob.rules (first_place (g.J.LineJob.stage c.args.job.now)) (view_of c.args.reader.now) (reader_source c.send_if_due.new.reader) c.args.output.now c.send_if_due.new.output r) (sym is)
    (c.lines.invariant.goes_on (reader_source c.send_if_due.new.reader) c.send_if_due.new.output (Err WriteFault)
    (goes_undue ends g.J.LineJob.rules c.lines.lines (g.J.LineJob.stage c.lines.job) c.lines.reader c.send_if_due.new.reader (string_bytes c.lines.batch) (string_bytes c.send_if_due.new.batch) c.lines.output c.send_if_due.new.output c.in_err-send_if_due.field-0.0 c.in_err-send_if_due.ensures))

pub lines-smaller : goal.lines-smaller
lines-smaller g c =
    let step : LineStep g.B.Source.supply g.J.LineJob.rules c.lines.lines c.send_if_due.new.reader c.take_line.new.reader (g.J.LineJob.stage c.lines.job) (g.J.LineJob.stage c.take_line.new.job) (string_bytes c.send_if_due.new.batch) (string_bytes c.take_line.new.batch) (Ok true) =
    subst (λ (b : Bool). LineStep g.B.Source.supply g.J.LineJob.rules c.lines.lines c.send_if_due.new.reader c.take_line.new.reader (g.J.LineJob.stage c.lines.job) (g.J.LineJob.stage c.take_line.new.job) (string_bytes c.send_if_due.new.batch) (string_bytes c.take_line.new.batch) (Ok b)) c.in-Ok-true.field-0-test c.in-Ok-true.ensures.step in
    left_falls g.B.Source.supply c.lines.lines c.lines.reader c.send_if_due.new.reader c.take_line.new.reader step.0 c.in_ok-send_if_due.ensures.0 step.2 c.take_line.new.reader.within

pub lines-preserved : goal.lines-preserved
lines-preserved g c =
    let ends : Ends g.row.B.Denot g.row.K.Denot = ends_of g.B.Source.supply g.K.Sink.held g.K.Sink.faults in
    let step : LineStep g.B.Source.supply g.J.LineJob.rules c.lines.lines c.send_if_due.new.reader c.take_line.new.reader (g.J.LineJob.stage c.lines.job) (g.J.LineJob.stage c.take_line.new.job) (string_bytes c.send_if_due.new.batch) (string_bytes c.take_line.new.batch) (Ok true) =
    subst (λ (b : Bool). LineStep g.B.Source.supply g.J.LineJob.rules c.lines.lines c.send_if_due.new.reader c.take_line.new.reader (g.J.LineJob.stage c.lines.job) (g.J.LineJob.stage c.take_line.new.job) (string_bytes c.send_if_due.new.batch) (string_bytes c.take_line.new.batch) (Ok b)) c.in-Ok-true.field-0-test c.in-Ok-true.ensures.step in
    record {
      goes_on = λ last sunk answer goes. c.lines.invariant.goes_on last sunk answer
          (goes_due ends g.J.LineJob.rules c.lines.lines (g.J.LineJob.stage c.lines.job) c.lines.reader c.send_if_due.new.reader (string_bytes c.lines.batch) (string_bytes c.send_if_due.new.batch) last c.lines.output c.send_if_due.new.output sunk answer
          c.in_ok-send_if_due.ensures.0 c.in_ok-send_if_due.ensures.1
          (goes_step ends g.J.LineJob.rules c.lines.lines (g.J.LineJob.stage c.lines.job) (g.J.LineJob.stage c.take_line.new.job) c.send_if_due.new.reader c.take_line.new.reader (string_bytes c.send_if_due.new.batch) (string_bytes c.take_line.new.batch) last c.send_if_due.new.output sunk answer
          c.take_line.new.reader.within step goes));
      leads_on = λ last leads. c.lines.invariant.leads_on last
          (leads_due ends g.J.LineJob.rules c.lines.lines (g.J.LineJob.stage c.lines.job) last c.lines.reader c.send_if_due.new.reader c.in_ok-send_if_due.ensures.0
          (leads_step ends g.J.LineJob.rules c.lines.lines (g.J.LineJob.stage c.lines.job) (g.J.LineJob.stage c.take_line.new.job) last c.send_if_due.new.reader c.take_line.new.reader (string_bytes c.send_if_due.new.batch) (string_bytes c.take_line.new.batch) step leads));
      ready = step.2.ready;
      sound = c.in-Ok-true.ensures.sound;
      same_reference = c.in-Ok-true.ensures.same_reference ∙ ap g.B.Source.supply.reference c.in_ok-send_if_due.ensures.0.stays.source ∙ c.lines.invariant.same_reference;
    }

pub returns-in-Ok-false-clause-goes : goal.returns-in-Ok-false-clause-goes
returns-in-Ok-false-clause-goes g c =
    let ends : Ends g.row.B.Denot g.row.K.Denot = ends_of g.B.Source.supply g.K.Sink.held g.K.Sink.faults in
    let step : LineStep g.B.Source.supply g.J.LineJob.rules c.lines.lines c.send_if_due.new.reader c.take_line.new.reader (g.J.LineJob.stage c.lines.job) (g.J.LineJob.stage c.take_line.new.job) (string_bytes c.send_if_due.new.batch) (string_bytes c.take_line.new.batch) (Ok false) =
    subst (λ (b : Bool). LineStep g.B.Source.supply g.J.LineJob.rules c.lines.lines c.send_if_due.new.reader c.take_line.new.reader (g.J.LineJob.stage c.lines.job) (g.J.LineJob.stage c.take_line.new.job) (string_bytes c.send_if_due.new.batch) (string_bytes c.take_line.new.batch) (Ok b)) c.in-Ok-false.field-0-test c.in-Ok-false.ensures.step in
    c.lines.invariant.goes_on (reader_source c.take_line.new.reader) c.send_before.new.output c.send_before.result
    (goes_due ends g.J.LineJob.rules c.lines.lines (g.J.LineJob.stage c.lines.job) c.lines.reader c.send_if_due.new.reader (string_bytes c.lines.batch) (string_bytes c.send_if_due.new.batch) (reader_source c.take_line.new.reader) c.lines.output c.send_if_due.new.output c.send_before.new.output c.send_before.result
    c.in_ok-send_if_due.ensures.0 c.in_ok-send_if_due.ensures.1
    (goes_end ends g.J.LineJob.rules c.lines.lines (g.J.LineJob.stage c.lines.job) (g.J.LineJob.stage c.take_line.new.job) c.send_if_due.new.reader c.take_line.new.reader (string_bytes c.send_if_due.new.batch) (string_bytes c.take_line.new.batch) (string_bytes c.judge_end-answer.new.batch) c.send_if_due.new.output c.send_before.new.output c.judge_end-answer.result c.send_before.result
    step c.judge_end-answer.ensures c.send_before.ensures))

pub returns-in-Err-clause-goes : goal.returns-in-Err-clause-goes
returns-in-Err-clause-goes g c =
    let ends : Ends g.row.B.Denot g.row.K.Denot = ends_of g.B.Source.supply g.K.Sink.held g.K.Sink.faults in
    c.lines.invariant.goes_on (reader_source c.take_line.new.reader) c.send_before-in-Err.new.output c.send_before-in-Err.result
    (goes_due ends g.J.LineJob.rules c.lines.lines (g.J.LineJob.stage c.lines.job) c.lines.reader c.send_if_due.new.reader (string_bytes c.lines.batch) (string_bytes c.send_if_due.new.batch) (reader_source c.take_line.new.reader) c.lines.output c.send_if_due.new.output c.send_before-in-Err.new.output c.send_before-in-Err.result
    c.in_ok-send_if_due.ensures.0 c.in_ok-send_if_due.ensures.1
    (goes_stopped ends g.J.LineJob.rules c.lines.lines (g.J.LineJob.stage c.lines.job) (g.J.LineJob.stage c.take_line.new.job) c.send_if_due.new.reader c.take_line.new.reader (string_bytes c.lines.batch) (string_bytes c.send_if_due.new.batch) (string_bytes c.take_line.new.batch) c.lines.output c.send_if_due.new.output c.send_before-in-Err.new.output c.in-Err.stop c.send_before-in-Err.result
    c.take_line.new.reader.within c.in_ok-send_if_due.ensures.1 c.in-Err.ensures.step c.send_before-in-Err.ensures))

pub returns-in-Ok-false-clause-stands : goal.returns-in-Ok-false-clause-stands
returns-in-Ok-false-clause-stands g c =
    let ends : Ends g.row.B.Denot g.row.K.Denot = ends_of g.B.Source.supply g.K.Sink.held g.K.Sink.faults in
    let step : LineStep g.B.Source.supply g.J.LineJob.rules c.lines.lines c.send_if_due.new.reader c.take_line.new.reader (g.J.LineJob.stage c.lines.job) (g.J.LineJob.stage c.take_line.new.job) (string_bytes c.send_if_due.new.batch) (string_bytes c.take_line.new.batch) (Ok false) =
    subst (λ (b : Bool). LineStep g.B.Source.supply g.J.LineJob.rules c.lines.lines c.send_if_due.new.reader c.take_line.new.reader (g.J.LineJob.stage c.lines.job) (g.J.LineJob.stage c.take_line.new.job) (string_bytes c.send_if_due.new.batch) (string_bytes c.take_line.new.batch) (Ok b)) c.in-Ok-false.field-0-test c.in-Ok-false.ensures.step in
    let leads : LeadsTo ends g.J.LineJob.rules 0 (g.J.LineJob.stage c.args.job.now) (view_of c.args.reader.now) (g.J.LineJob.stage c.take_line.new.job) =
    c.lines.invariant.leads_on (g.J.LineJob.stage c.take_line.new.job)
    (leads_due ends g.J.LineJob.rules c.lines.lines (g.J.LineJob.stage c.lines.job) (g.J.LineJob.stage c.take_line.new.job) c.lines.reader c.send_if_due.new.reader c.in_ok-send_if_due.ensures.0
    (leads_end ends g.J.LineJob.rules c.lines.lines (g.J.LineJob.stage c.lines.job) (g.J.LineJob.stage c.take_line.new.job) c.send_if_due.new.reader c.take_line.new.reader (string_bytes c.send_if_due.new.batch) (string_bytes c.take_line.new.batch) step)) in
    always c.send_before.result leads

pub returns-in-Err-clause-stands : goal.returns-in-Err-clause-stands
returns-in-Err-clause-stands g c =
    let ends : Ends g.row.B.Denot g.row.K.Denot = ends_of g.B.Source.supply g.K.Sink.held g.K.Sink.faults in
    never_ok (LeadsTo ends g.J.LineJob.rules 0 (g.J.LineJob.stage c.args.job.now) (view_of c.args.reader.now) (g.J.LineJob.stage c.take_line.new.job))
    g.K.Sink.held g.K.Sink.faults c.send_if_due.new.output c.send_before-in-Err.new.output (string_bytes c.take_line.new.batch) c.in-Err.stop c.send_before-in-Err.result c.send_before-in-Err.ensures
