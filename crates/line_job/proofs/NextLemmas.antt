-- What a reader's reading of a line says, as a run sees it.
use Rattle.std.proofs.Common.{◌≡◌, ◌+◌, ◌<◌, ◌≤◌, ◌^◌, min, ℕ, Bool, true, false, List, length, sym, ◌∙◌, ap, subst, arith, ⊎_elim, length-append, Ok, Err}
use Rattle.edge_io.specs.Supply.{Supply}
use Rattle.whiteread.specs.Stream.{OneRises}
use Rattle.whiteread.specs.LineCall.{LineCall, TakesLine}
use Rattle.whiteread.specs.ReaderState.{reader_source, reader_limit, reader_taken, reader_waiting, reader_line, reader_faults}
use Rattle.whiteread.specs.declared.reader.Reader.{Reader}
use Rattle.whiteread.specs.declared.stream.error.Error.{Error}
use Rattle.whiteread.specs.declared.stream.error.Error.TheVariants.{TooShort, Leftovers, ParseError, IoError, NoMemory as ErrorNoMemory}
use Rattle.whiteread.specs.declared.stream.error.IoFault.{IoFault}
use Rattle.whiteread.specs.declared.stream.error.IoFault.TheVariants.{ReadFault as FaultRead, NotUtf8 as FaultUtf8, TooLong as FaultLong, CannotOpen}
use Rattle.line_job.specs.declared.reading.LineFault.{LineFault}
use Rattle.line_job.specs.Inner.NextLine.{IsOpen, IsReady, Took, IsToldAs, NextLine}
use Rattle.line_job.proofs.LineLemmas.{first_some, last_if_open, le_or_lt, not_open}

one_more : {B : Type 0} (supply : Supply B) (before : ℕ) (old new : Reader B) (line : List ℕ) → IsReady supply before old → TakesLine supply old new line
    → (before + 1) + length (reader_waiting new) ≤ supply.given (reader_source new)
one_more supply before old new line ready takes =
    let cut : length (reader_waiting old) + length takes.got ≡ length line + length (reader_waiting new) =
    sym (length-append (reader_waiting old) takes.got) ∙ ap length takes.cut ∙ length-append line (reader_waiting new) in
    omega (arith, ready.counted, takes.gave.count, cut, first_some line (reader_waiting new) takes.first)

less_than_a_read : {B : Type 0} (supply : Supply B) (before : ℕ) (old new : Reader B) (line : List ℕ) → IsReady supply before old → TakesLine supply old new line → length (reader_waiting new) ≤ 4095
less_than_a_read supply before old new line ready takes =
    let cut : length (reader_waiting old) + length takes.got ≡ length line + length (reader_waiting new) =
    sym (length-append (reader_waiting old) takes.got) ∙ ap length takes.cut ∙ length-append line (reader_waiting new) in
    ⊎_elim (λ (none : length takes.got ≤ 0). omega (arith, cut, none, ready.few)) (λ some. takes.few some) (le_or_lt (length takes.got) 0)

took : {B : Type 0} (supply : Supply B) (before : ℕ) (old new : Reader B) (line : List ℕ)
    → ¬ IsOpen (reader_line old) → IsReady supply before old → TakesLine supply old new line → supply.faults (reader_source new) ≡ supply.faults (reader_source old) → reader_limit new ≡ reader_limit old
    → (IsOpen (reader_line new) → IsOpen line) → Took supply before old new line
took supply before old new line more ready takes still limit current = record {
  takes = takes;
  more = more;
  still = still;
  limit = limit;
  ready = record {
    past = takes.past;
    last = λ opened. (let end = last_if_open line (reader_waiting new) takes.first (current opened) in (end.1, takes.unended end.0));
    counted = one_more supply before old new line ready takes;
    few = less_than_a_read supply before old new line ready takes;
  };
}

pub next_ok : {B : Type 0} (supply : Supply B) (before : ℕ) (old new : Reader B) (found : Bool)
    → ¬ IsOpen (reader_line old) → IsReady supply before old → LineCall supply old (Ok found) new → NextLine supply before old (Ok found) new
next_ok supply before old new true more ready call =
    let still : supply.faults (reader_source new) ≡ supply.faults (reader_source old) = ap (λ (f : IoFault → ℕ). f FaultRead) call.counts in
    took supply before old new (reader_line new) more ready call.outcome.0 still call.limit (λ opened. opened)
next_ok supply before old new false more ready call = record {
  gave = call.outcome.0.gave;
  none = call.outcome.0.none_waited;
  end = call.outcome.0.end;
  still = ap (λ (f : IoFault → ℕ). f FaultRead) call.counts;
}

others_still : {B : Type 0} (supply : Supply B) (old new : Reader B) (fault : IoFault) → (FaultRead ≡ fault → ⊥) → OneRises fault (reader_faults supply old) (reader_faults supply new)
    → supply.faults (reader_source new) ≡ supply.faults (reader_source old)
others_still supply old new fault other one = one.others FaultRead other

pub next_err : {B : Type 0} (supply : Supply B) (before number : ℕ) (old new : Reader B) (error : Error) (fault : LineFault)
    → ¬ IsOpen (reader_line old) → IsReady supply before old → reader_taken new ≤ reader_limit new → ((source : B) → supply.given source < 2 ^ 64) → number ≡ min (before + 1) 18446744073709551615
    → LineCall supply old (Err error) new → IsToldAs error number fault → NextLine supply before old (Err fault) new
next_err supply before number old new (TooShort progress) fault more ready within fits counted call told = absurd call.outcome
next_err supply before number old new Leftovers fault more ready within fits counted call told = absurd call.outcome
next_err supply before number old new ParseError fault more ready within fits counted call told = absurd call.outcome
next_err supply before number old new (IoError FaultRead) fault more ready within fits counted call told =
    subst (λ (e : LineFault). NextLine supply before old (Err e) new) (sym told) (record {
      waits = call.outcome.0;
      no_feed = call.outcome.1;
      more = more;
      rose = call.counts.rose;
      limit = call.limit;
    })
next_err supply before number old new (IoError FaultUtf8) fault more ready within fits counted call told =
    let line : List ℕ = call.outcome.0.0 in
    let takes : TakesLine supply old new line = call.outcome.0.1 in
    let still : supply.faults (reader_source new) ≡ supply.faults (reader_source old) = others_still supply old new FaultUtf8 (λ e. absurd (cc)) call.counts in
    subst (λ (e : LineFault). NextLine supply before old (Err e) new) (sym told) (
      line,
      took supply before old new line more ready takes still call.limit (λ opened. absurd (not_open (reader_line new) call.outcome.1.line opened)),
      call.outcome.0.2,
      omega (arith, counted, one_more supply before old new line ready takes, fits (reader_source new)),
    )
next_err supply before number old new (IoError FaultLong) fault more ready within fits counted call told =
    subst (λ (e : LineFault). NextLine supply before old (Err e) new) (sym told) (record {
      passes = call.outcome.0;
      unprobed = ready.past;
      more = more;
      still = others_still supply old new FaultLong (λ e. absurd (cc)) call.counts;
      limit = call.limit;
    })
next_err supply before number old new (IoError CannotOpen) fault more ready within fits counted call told = absurd call.outcome
next_err supply before number old new ErrorNoMemory fault more ready within fits counted call told =
    subst (λ (e : LineFault). NextLine supply before old (Err e) new) (sym told) (record {
      got = call.outcome.0.got;
      gave = call.outcome.0.gave;
      within = omega (arith, call.outcome.0.gave.count, call.outcome.0.taken, call.limit, within);
      still = ap (λ (f : IoFault → ℕ). f FaultRead) call.counts;
    })
