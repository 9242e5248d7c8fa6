use Rattle.std.proofs.Common.{◌≡◌, sym, subst, true, false}
use Rattle.whiteread.specs.ReaderState.{reader_line}
use Rattle.whiteread.specs.declared.stream.error.Error.{Error}
use Rattle.line_job.specs.Inner.NextLine.{IsOpen, IsToldAs}
use Rattle.line_job.proofs.NextLemmas.{next_ok, next_err}
use Rattle.line_job.proofs.reading.next_line.Goals as goal

pub returns-in-Ok-clause-step : goal.returns-in-Ok-clause-step
returns-in-Ok-clause-step g c =
    let more : ¬ IsOpen (reader_line c.args.reader.now) =
    λ opened. (let yes : c.is_open.result ≡ true = c.is_open.ensures.1 (subst IsOpen (sym c.current_line.ensures) opened) in let no : c.is_open.result ≡ false = c.if-is_open.false in absurd (cc)) in
    next_ok g.B.Source.supply c.args.before c.args.reader.now c.advance_line.new.self c.in-Ok.found more c.requires c.in-Ok.ensures.line

pub returns-in-Err-clause-step : goal.returns-in-Err-clause-step
returns-in-Err-clause-step g c =
    let more : ¬ IsOpen (reader_line c.args.reader.now) =
    λ opened. (let yes : c.is_open.result ≡ true = c.is_open.ensures.1 (subst IsOpen (sym c.current_line.ensures) opened) in let no : c.is_open.result ≡ false = c.if-is_open.false in absurd (cc)) in
    let told : IsToldAs c.in-Err.why.error c.saturating_add.result c.fault_of.result =
    subst (λ (e : Error). IsToldAs e c.saturating_add.result c.fault_of.result) c.into_inner.ensures c.fault_of.ensures in
    next_err g.B.Source.supply c.args.before c.saturating_add.result c.args.reader.now c.advance_line.new.self c.in-Err.why.error c.fault_of.result
    more c.requires c.advance_line.new.self.within g.met.B.Source.given_fits c.saturating_add.ensures c.in-Err.ensures.line told
