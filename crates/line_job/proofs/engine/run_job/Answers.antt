use Rattle.std.proofs.Common.{◌≡◌, ◌∙◌, ◌-◌, ◌++◌, ap, sym, subst, refl, ℕ, List, [], MutBor, arith, OnOk, IfSome}
use Rattle.edge_io.specs.Supply.{Supply, borrowed}
use Rattle.whiteread.specs.Lines.{lines_of}
use Rattle.whiteread.specs.ReaderState.{reader_source, reader_limit, reader_taken, reader_waiting, reader_line}
use Rattle.line_job.specs.Ends.{source_seen, sink_seen}
use Rattle.line_job.specs.Rules.{AreKept}
use Rattle.line_job.specs.Runs.{Runs}
use Rattle.line_job.specs.Inner.Goes.{Goes, View, ends_of, view_of, first_place}
use Rattle.line_job.proofs.StepLemmas.{view_is}
use Rattle.line_job.proofs.RunsLemmas.{first_view, result_is}
use Rattle.line_job.proofs.engine.run_job.Goals as goal

pub returns-clause-runs : goal.returns-clause-runs
returns-clause-runs g c =
    let first : MutBor g.row.S.Denot = reader_source c.new-reader.result in
    let last : MutBor g.row.S.Denot = reader_source c.run_lines-answer.new.reader in
    let name : c.new-arg-1.given ≡ c.into_inner.result.ghost_name =
    sym (ap (λ (s : MutBor g.row.S.Denot). s.ghost_name) c.into_inner.ensures ∙ c.run_lines-answer.ensures.same_reference ∙ ap (λ (s : MutBor g.row.S.Denot). s.ghost_name) c.new-reader.ensures.source) in
    let end : last.now ≡ c.input-1.given.0 = sym (c.input-1.given.1 name ∙ ap (λ (s : MutBor g.row.S.Denot). s.now) c.into_inner.ensures) in
    let begin : first.now ≡ c.args.input.now = ap (λ (s : MutBor g.row.S.Denot). s.now) c.new-reader.ensures.source in
    let supply : Supply (MutBor g.row.S.Denot) = borrowed (λ s. s.now) (λ s. s.ghost_name) g.S.Source.supply in
    let start = g.J.LineJob.stage c.args.job.now in
    let room : reader_limit c.new-reader.result - reader_taken c.new-reader.result ≡ c.args.limit = omega (arith, c.new-reader.ensures.limit, c.new-reader.ensures.taken) in
    let seen : view_of c.new-reader.result ≡ first_view first c.args.limit =
    view_is first first [] (reader_waiting c.new-reader.result) c.args.limit (reader_limit c.new-reader.result - reader_taken c.new-reader.result) [] (reader_line c.new-reader.result) refl c.new-reader.ensures.waiting room c.new-reader.ensures.line in
    let goes : Goes (ends_of supply g.K.Sink.held g.K.Sink.faults) g.J.LineJob.rules (first_place start) (first_view first c.args.limit) last c.args.output.now c.run_lines-answer.new.output c.run_lines-answer.result =
    subst (λ (v : View (MutBor g.row.S.Denot)). Goes (ends_of supply g.K.Sink.held g.K.Sink.faults) g.J.LineJob.rules (first_place start) v last c.args.output.now c.run_lines-answer.new.output c.run_lines-answer.result) seen c.run_lines-answer.ensures.goes in
    let all : Runs g.J.LineJob.rules start c.args.limit (source_seen g.S.Source.supply first.now last.now) (sink_seen g.K.Sink.held g.K.Sink.faults c.args.output.now c.run_lines-answer.new.output) c.run_lines-answer.result =
    result_is g.J.LineJob.rules g.met.J.LineJob.clear start supply g.K.Sink.held g.K.Sink.faults first last c.args.output.now c.run_lines-answer.new.output c.args.limit c.run_lines-answer.result goes in
    subst (λ (s : g.row.S.Denot). Runs g.J.LineJob.rules start c.args.limit (source_seen g.S.Source.supply s c.input-1.given.0) (sink_seen g.K.Sink.held g.K.Sink.faults c.args.output.now c.run_lines-answer.new.output) c.run_lines-answer.result) begin
    (subst (λ (s : g.row.S.Denot). Runs g.J.LineJob.rules start c.args.limit (source_seen g.S.Source.supply first.now s) (sink_seen g.K.Sink.held g.K.Sink.faults c.args.output.now c.run_lines-answer.new.output) c.run_lines-answer.result) end all)

pub returns-clause-stands : goal.returns-clause-stands
returns-clause-stands g c =
    let first : MutBor g.row.S.Denot = reader_source c.new-reader.result in
    let begin : first.now ≡ c.args.input.now = ap (λ (s : MutBor g.row.S.Denot). s.now) c.new-reader.ensures.source in
    let start = g.J.LineJob.stage c.args.job.now in
    let stage = g.J.LineJob.stage c.run_lines-answer.new.job in
    let waiting : reader_waiting c.new-reader.result ≡ [] = c.new-reader.ensures.waiting in
    let leads = λ (s : g.row.S.Denot) (w : List ℕ). OnOk c.run_lines-answer.result (IfSome (g.S.Source.supply.rest s) (λ bytes. (text : List ℕ) × AreKept g.J.LineJob.rules 0 start (lines_of (w ++ bytes)) text stage)) in
    subst (λ (s : g.row.S.Denot). leads s []) begin (subst (λ (w : List ℕ). leads first.now w) waiting c.run_lines-answer.ensures.stands)
