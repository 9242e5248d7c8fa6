use Rattle.std.proofs.Common.{◌≡◌, ℕ, Result, string_bytes}
use Rattle.whiteread.specs.ReaderState.{reader_source}
use Rattle.line_job.specs.declared.stop.Stop.{Stop}
use Rattle.line_job.specs.Inner.NextLine.{IsReady}
use Rattle.line_job.specs.Inner.Goes.{Goes, LeadsTo, place_of, first_place, view_of, ends_of, left}
use Rattle.line_job.proofs.engine.run_lines.Given as goal

abbrev pub invariant-lines : goal.invariant-lines
invariant-lines g l = record {
  goes_on : (last : g.row.B.Denot) (sunk : g.row.K.Denot) (answer : Result ℕ (Stop g.row.J-Why.Denot))
      → Goes (ends_of g.B.Source.supply g.K.Sink.held g.K.Sink.faults) g.J.LineJob.rules (place_of l.lines (g.J.LineJob.stage l.job) (string_bytes l.batch)) (view_of l.reader) last l.output sunk answer
      → Goes (ends_of g.B.Source.supply g.K.Sink.held g.K.Sink.faults) g.J.LineJob.rules (first_place (g.J.LineJob.stage l.initial.job)) (view_of l.initial.reader) last l.initial.output sunk answer;
  leads_on : (last : g.J.LineJob.Stage)
      → LeadsTo (ends_of g.B.Source.supply g.K.Sink.held g.K.Sink.faults) g.J.LineJob.rules l.lines (g.J.LineJob.stage l.job) (view_of l.reader) last
      → LeadsTo (ends_of g.B.Source.supply g.K.Sink.held g.K.Sink.faults) g.J.LineJob.rules 0 (g.J.LineJob.stage l.initial.job) (view_of l.initial.reader) last;
  ready : IsReady g.B.Source.supply l.lines l.reader;
  sound : g.J.LineJob.IsSound l.job;
  same_reference : g.B.Source.supply.reference (reader_source l.reader) ≡ g.B.Source.supply.reference (reader_source l.initial.reader);
}

abbrev pub decreases-lines : goal.decreases-lines
decreases-lines g l = left (view_of l.reader)
