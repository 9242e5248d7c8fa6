-- Where there is no memory before the first read, nothing is read or written.
use Rattle.std.proofs.Common.{◌≡◌, ℕ, List, [], sym, refl, inr, arith, Option, Some, None, Result, Err, IfSome}
use Rattle.std.proofs.lemmas.List.{append-nil}
use Rattle.std.specs.Io.KnownBytes.{Consumes, Appends}
use Rattle.line_job.specs.declared.stop.Stop.{Stop}
use Rattle.line_job.specs.declared.stop.Stop.TheVariants.{NoMemory}
use Rattle.line_job.specs.Ends.{Seen, SourceState, SinkState, Tells}
use Rattle.line_job.specs.Reached.{reached_lines}
use Rattle.line_job.specs.Rules.{Rules}
use Rattle.line_job.specs.Runs.{Runs}
use Rattle.line_job.specs.Told.{RunsTold, result_message}

any_is : (r0 : Option (List ℕ)) (P : List ℕ → Type 0) → ((bytes : List ℕ) → P bytes) → IfSome r0 P
any_is None P here = tt
any_is (Some xs) P here = here xs

consumes_nothing : (r0 : Option (List ℕ)) → Consumes r0 r0 []
consumes_nothing None = tt
consumes_nothing (Some xs) = refl

appends_nothing : (r0 : Option (List ℕ)) → Appends r0 r0 []
appends_nothing None = tt
appends_nothing (Some xs) = sym (append-nil xs)

abbrev unchanged : {State : Type 0} → State → Seen State
unchanged state = record { before = state; after = state }

abbrev none : (Why : Type 0) → Result ℕ (Stop Why)
none Why = Err NoMemory

runs : {Stage Why : Type 0} (rules : Rules Stage Why) (start : Stage) (limit : ℕ) (source : SourceState) (sink : SinkState) → Runs rules start limit (unchanged source) (unchanged sink) (none Why)
runs rules start limit source sink = record {
  kept = tt;
  lines = tt;
  within = tt;
  refused = λ of_lines. absurd of_lines;
  read_no_further = λ of_lines. absurd of_lines;
  refuses = any_is source.rest _ (λ bytes text stop is. inr (inr (inr refl)));
  too_long = ((λ e. absurd (cc)), (λ more. absurd (omega (arith, more))));
  taken = omega arith;
  gave = ([], consumes_nothing source.rest, omega arith);
  past_limit = λ e. absurd (cc);
  read_fault = λ e. absurd (cc);
  before_a_read = λ e. absurd (cc);
  reads = inr refl;
  write_fault = λ e. absurd (cc);
  writes = inr refl;
  after_write_fault = λ e. absurd (cc);
  after_no_memory = λ e. any_is source.rest _ (λ bytes. ([], reached_lines limit bytes, refl, ([], start, (refl, refl), appends_nothing sink.held)));
  complete = any_is source.rest _ (λ bytes text is le a b. inr refl);
}

pub tells_no_memory : {Stage Why : Type 0} (rules : Rules Stage Why) (start : Stage) (message : Why → List ℕ) (limit : ℕ) (source : SourceState) (sink : SinkState) (errors : Seen SinkState) (status : ℕ)
    → status ≡ 6 → Tells errors (result_message message (none Why)) → RunsTold rules start message limit (unchanged source) (unchanged sink) errors status
tells_no_memory {Why = Why} rules start message limit source sink errors status six tells = record { result = none Why; runs = runs rules start limit source sink; status_is = six; tells = tells }
