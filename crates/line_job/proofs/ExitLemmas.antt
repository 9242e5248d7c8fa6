-- The clauses of a run where it ends.
use Rattle.std.proofs.Common.{◌≡◌, ◌+◌, ◌-◌, ◌<◌, ◌≤◌, ◌++◌, ℕ, List, [], length, sym, ◌∙◌, ap, subst, refl, inl, inr, arith, length-append, Ok, Err, IfSome}
use Rattle.std.specs.Io.KnownBytes.{Appends, Consumes, IsAtEnd}
use Rattle.std.proofs.KnownBytes.{Appends-nil}
use Rattle.edge_io.specs.Ends.{Rises, AppendsFront}
use Rattle.whiteread.specs.Lines.{lines_of, without_feed}
use Rattle.whiteread.specs.LineCall.{TakesLine, PassesLimit, probe_len}
use Rattle.whiteread.specs.ReaderState.{reader_source, reader_limit, reader_taken, reader_waiting}
use Rattle.whiteread.specs.declared.reader.Reader.{Reader}
use Rattle.line_job.specs.declared.stop.Stop.{Stop}
use Rattle.line_job.specs.declared.stop.Stop.TheVariants.{Line, TooLong, ReadFault, WriteFault, NoMemory}
use Rattle.line_job.specs.Stop.{IsOfLines}
use Rattle.line_job.specs.Rules.{Rules, RefusesLine, AreKept, WereKept, AreRefused}
use Rattle.line_job.specs.Reached.{reaches_end, one_read, ended_lines, reached_lines}
use Rattle.line_job.specs.Inner.NextLine.{Took, Ended, Failed, Passed, Quiet}
use Rattle.line_job.specs.Inner.Goes.{Ends, View, place_of, view_of, left, GrewAll, Grew, GrewLines, GrewSome, GrewRefused, Goes}
use Rattle.line_job.proofs.LineLemmas.{first_some, reached_first, reached_all, reaches_all, ended_none, ended_short, ended_nil}
use Rattle.line_job.proofs.EndLemmas.{no_refusal, line_is, waits_is, passes_is, none_is, any_is, grew_nil, some_front}
use Rattle.line_job.proofs.GoesLemmas.{counts, none_kept}

-- a refusal of a line, or of the end: what differs is what was taken and refused
ends_refused : {B K Stage Why : Type 0} (ends : Ends B K) (rules : Rules Stage Why) (before : ℕ) (stage : Stage) (owed : List ℕ) (old : View B) (source' : B) (output output' : K) (stop : Stop Why)
    → IsOfLines stop → IfSome (ends.supply.rest old.source) (λ bytes. GrewRefused rules (place_of before stage owed) (ends.held output) (ends.held output') stop (left old) (old.waiting ++ bytes))
    → IfSome (ends.supply.rest old.source) (λ bytes. WereKept rules before stage (ended_lines (length old.waiting + (ends.supply.given source' - ends.supply.given old.source) - one_read) (old.waiting ++ bytes)))
    → ends.supply.given source' ≤ ends.supply.given old.source + old.room → (got : List ℕ) × Consumes (ends.supply.rest old.source) (ends.supply.rest source') got × (ends.supply.given source' ≡ ends.supply.given old.source + length got)
    → ends.supply.faults source' ≡ ends.supply.faults old.source → ends.sink_faults output' ≡ ends.sink_faults output
    → Goes ends rules (place_of before stage owed) old source' output output' (Err stop)
ends_refused ends rules before stage owed old source' output output' stop of_lines refused early within gave still wrote = record {
  kept = tt;
  lines = tt;
  refused = λ _. refused;
  read_no_further = λ _. early;
  too_long = λ e. absurd (no_refusal stop TooLong of_lines (λ h. h) e);
  within = inr within;
  gave = gave;
  past_limit = λ e. absurd (no_refusal stop TooLong of_lines (λ h. h) e);
  read_fault = λ e. absurd (no_refusal stop ReadFault of_lines (λ h. h) e);
  before_a_read = λ e. absurd (no_refusal stop ReadFault of_lines (λ h. h) e);
  reads = inr still;
  write_fault = λ e. absurd (no_refusal stop WriteFault of_lines (λ h. h) e);
  writes = inr wrote;
  after_write_fault = λ e. absurd (no_refusal stop WriteFault of_lines (λ h. h) e);
  after_no_memory = λ e. absurd (no_refusal stop NoMemory of_lines (λ h. h) e);
  more = λ e. elim e [
    | inl w ↦ absurd (no_refusal stop ReadFault of_lines (λ h. h) w)
    | inr w ↦ absurd (no_refusal stop TooLong of_lines (λ h. h) w)
  ];
}

gave_none : {B K : Type 0} (ends : Ends B K) (old new : Reader B) → Ended ends.supply old new
    → (got : List ℕ) × Consumes (ends.supply.rest (reader_source old)) (ends.supply.rest (reader_source new)) got × (ends.supply.given (reader_source new) ≡ ends.supply.given (reader_source old) + length got)
gave_none ends old new ended = ([], ended.gave.bytes, ended.gave.count)

-- no line is left, and the end was kept
pub exit_end : {B K Stage Why : Type 0} (ends : Ends B K) (rules : Rules Stage Why) (before : ℕ) (stage : Stage) (owed tail : List ℕ) (old new : Reader B) (output output' : K)
    → Ended ends.supply old new → rules.ends stage tail → Appends (ends.held output) (ends.held output') (owed ++ tail) → ends.sink_faults output' ≡ ends.sink_faults output
    → Goes ends rules (place_of before stage owed) (view_of old) (reader_source new) output output' (Ok before)
exit_end ends rules before stage owed tail old new output output' ended ends_here sent wrote = record {
  kept = none_is (ends.supply.rest (reader_source old)) (ends.supply.rest (reader_source new)) (reader_waiting old)
      (λ bytes. IsAtEnd (ends.supply.rest (reader_source new)) × GrewAll rules (place_of before stage owed) (ends.held output) (ends.held output') (lines_of bytes))
      ended.gave.bytes ended.none ended.end (ended.end, (tail, ([], tail, stage, (refl, refl), ends_here, refl), sent));
  lines = none_is (ends.supply.rest (reader_source old)) (ends.supply.rest (reader_source new)) (reader_waiting old) (λ bytes. (before + length (lines_of bytes) ≡ before) × (length bytes ≤ left (view_of old)))
      ended.gave.bytes ended.none ended.end (omega arith, omega arith);
  refused = tt;
  read_no_further = tt;
  too_long = λ e. absurd (cc);
  within = inr (omega (arith, ended.gave.count));
  gave = gave_none ends old new ended;
  past_limit = λ e. absurd (cc);
  read_fault = λ e. absurd (cc);
  before_a_read = λ e. absurd (cc);
  reads = inr ended.still;
  write_fault = λ e. absurd (cc);
  writes = inr wrote;
  after_write_fault = λ e. absurd (cc);
  after_no_memory = λ e. absurd (cc);
  more = λ e. elim e [ inl w ↦ absurd (cc) | inr w ↦ absurd (cc) ];
}

-- no line is left, and the end was refused
pub exit_missing : {B K Stage Why : Type 0} (ends : Ends B K) (rules : Rules Stage Why) (before : ℕ) (stage : Stage) (owed : List ℕ) (old new : Reader B) (output output' : K) (why : Why)
    → Ended ends.supply old new → rules.misses stage before why → Appends (ends.held output) (ends.held output') owed → ends.sink_faults output' ≡ ends.sink_faults output
    → Goes ends rules (place_of before stage owed) (view_of old) (reader_source new) output output' (Err (Line why))
exit_missing ends rules before stage owed old new output output' why ended missing sent wrote =
    let l0 : ℕ = left (view_of old) in
    let early : ℕ = length (reader_waiting old) + (ends.supply.given (reader_source new) - ends.supply.given (reader_source old)) - one_read in
    let held = ends.held output in
    let held' = ends.held output' in
    ends_refused ends rules before stage owed (view_of old) (reader_source new) output output' (Line why) tt
    (none_is (ends.supply.rest (reader_source old)) (ends.supply.rest (reader_source new)) (reader_waiting old) (GrewRefused rules (place_of before stage owed) held held' (Line why) l0)
    ended.gave.bytes ended.none ended.end
    ([], subst (λ (ls : List (List ℕ)). AreRefused rules (reaches_end l0 []) before stage ls [] (Line why)) (sym (reached_all l0 [] (omega arith))) (reaches_all l0 [] (omega arith), refl, (why, missing, refl)), grew_nil held held' owed sent))
    (none_is (ends.supply.rest (reader_source old)) (ends.supply.rest (reader_source new)) (reader_waiting old) (λ bytes. WereKept rules before stage (ended_lines early bytes))
    ended.gave.bytes ended.none ended.end (none_kept rules before stage (ended_lines early []) (ended_nil early [] refl)))
    (omega (arith, ended.gave.count)) (gave_none ends old new ended) ended.still wrote

-- a line was refused
pub exit_refused : {B K Stage Why : Type 0} (ends : Ends B K) (rules : Rules Stage Why) (before : ℕ) (stage : Stage) (owed : List ℕ) (old new : Reader B) (output output' : K) (stop : Stop Why) (line : List ℕ)
    → Took ends.supply before old new line → reader_taken new ≤ reader_limit new → IsOfLines stop → RefusesLine rules stage (before + 1) (without_feed line) stop
    → Appends (ends.held output) (ends.held output') owed → ends.sink_faults output' ≡ ends.sink_faults output
    → Goes ends rules (place_of before stage owed) (view_of old) (reader_source new) output output' (Err stop)
exit_refused ends rules before stage owed old new output output' stop line took within of_lines bad sent wrote =
    let takes : TakesLine ends.supply old new line = took.takes in
    let n = counts ends.supply before old new line took within in
    let l0 : ℕ = left (view_of old) in
    let l1 : ℕ = left (view_of new) in
    let held = ends.held output in
    let held' = ends.held output' in
    let reach : l0 ≡ length line + l1 = omega (arith, n.cut, n.room) in
    let early : ℕ = length (reader_waiting old) + (ends.supply.given (reader_source new) - ends.supply.given (reader_source old)) - one_read in
    let short : early < length line = omega (arith, n.cut, n.gave, took.ready.few, first_some line (reader_waiting new) takes.first) in
    ends_refused ends rules before stage owed (view_of old) (reader_source new) output output' stop of_lines
    (line_is (ends.supply.rest (reader_source old)) (ends.supply.rest (reader_source new)) (reader_waiting old) (reader_waiting new) line takes.got (GrewRefused rules (place_of before stage owed) held held' stop l0)
    takes.gave.bytes takes.cut takes.first takes.unended
    (λ bytes begun. (
      [],
      subst (λ (ls : List (List ℕ)). AreRefused rules (reaches_end l0 (line ++ bytes)) before stage ls [] stop) (sym (reached_first line bytes l0 l1 begun reach)) (inl (refl, bad)),
      grew_nil held held' owed sent,
    )))
    (line_is (ends.supply.rest (reader_source old)) (ends.supply.rest (reader_source new)) (reader_waiting old) (reader_waiting new) line takes.got (λ bytes. WereKept rules before stage (ended_lines early bytes))
    takes.gave.bytes takes.cut takes.first takes.unended
    (λ bytes begun. none_kept rules before stage (ended_lines early (line ++ bytes)) (ended_short line bytes early begun short)))
    (omega (arith, n.gave, n.room)) (takes.got, takes.gave.bytes, takes.gave.count) took.still wrote

-- a read failed, and nothing was owed
pub exit_failed : {B K Stage Why : Type 0} (ends : Ends B K) (rules : Rules Stage Why) (before : ℕ) (stage : Stage) (old new : Reader B) (output : K) → Failed ends.supply old new → reader_taken new ≤ reader_limit new
    → Goes ends rules (place_of before stage []) (view_of old) (reader_source new) output output (Err ReadFault)
exit_failed ends rules before stage old new output failed within =
    let w0 : List ℕ = reader_waiting old in
    let w1 : List ℕ = reader_waiting new in
    let held = ends.held output in
    let long : length w1 ≡ length w0 + length failed.waits.got = ap length failed.waits.waits ∙ length-append w0 failed.waits.got in
    let seen : ℕ = length w0 + (ends.supply.given (reader_source new) - ends.supply.given (reader_source old)) in
    let see : seen ≡ length w1 = omega (arith, long, failed.waits.gave.count) in
    record {
      kept = tt;
      lines = tt;
      refused = λ h. absurd h;
      read_no_further = λ h. absurd h;
      too_long = λ e. absurd (cc);
      within = inr (omega (arith, failed.waits.gave.count, failed.waits.taken, failed.limit, within));
      gave = (failed.waits.got, failed.waits.gave.bytes, failed.waits.gave.count);
      past_limit = λ e. absurd (cc);
      read_fault = λ e. failed.rose;
      before_a_read = λ e. waits_is (ends.supply.rest (reader_source old)) (ends.supply.rest (reader_source new)) w0 w1 failed.waits.got (λ bytes. Grew rules (place_of before stage []) held held (ended_lines seen bytes))
          failed.waits.gave.bytes failed.waits.waits
          (λ bytes. ([], stage, subst (λ (ls : List (List ℕ)). AreKept rules before stage ls [] stage) (sym (ended_none w1 bytes seen failed.no_feed see)) (refl, refl), Appends-nil held));
      reads = inl refl;
      write_fault = λ e. absurd (cc);
      writes = inr refl;
      after_write_fault = λ e. absurd (cc);
      after_no_memory = λ e. absurd (cc);
      more = λ e. failed.more;
    }

-- the limit was passed
pub exit_passed : {B K Stage Why : Type 0} (ends : Ends B K) (rules : Rules Stage Why) (before : ℕ) (stage : Stage) (owed : List ℕ) (old new : Reader B) (output output' : K) → Passed ends.supply old new
    → Appends (ends.held output) (ends.held output') owed → ends.sink_faults output' ≡ ends.sink_faults output
    → Goes ends rules (place_of before stage owed) (view_of old) (reader_source new) output output' (Err TooLong)
exit_passed ends rules before stage owed old new output output' passed sent wrote =
    let p : PassesLimit ends.supply old new = passed.passes in
    let w0 : List ℕ = reader_waiting old in
    let w1 : List ℕ = reader_waiting new in
    let held = ends.held output in
    let held' = ends.held output' in
    let long : length w1 ≡ length w0 + length p.got = ap length p.waits ∙ length-append w0 p.got in
    let one : length p.probe ≡ 1 = p.probed ∙ ap probe_len passed.unprobed in
    let given : ends.supply.given (reader_source new) ≡ ends.supply.given (reader_source old) + (length p.got + length p.probe) = p.gave.count ∙ ap (λ (k : ℕ). ends.supply.given (reader_source old) + k) (length-append p.got p.probe) in
    let l0 : ℕ = left (view_of old) in
    let reach : l0 ≡ length w1 = omega (arith, long, p.taken, p.full, passed.limit) in
    record {
      kept = tt;
      lines = tt;
      refused = λ h. absurd h;
      read_no_further = λ h. absurd h;
      too_long = λ e. omega (arith, given, one, p.taken, p.full, passed.limit);
      within = inl refl;
      gave = (p.got ++ p.probe, p.gave.bytes, p.gave.count);
      past_limit = λ e. passes_is (ends.supply.rest (reader_source old)) (ends.supply.rest (reader_source new)) w0 w1 p.got p.probe
          (λ bytes. (l0 < length bytes) × Grew rules (place_of before stage owed) held held' (ended_lines l0 bytes)) p.gave.bytes p.waits
          (λ bytes. (
            omega (arith, reach, one, length-append w1 (p.probe ++ bytes), length-append p.probe bytes),
            ([], stage, subst (λ (ls : List (List ℕ)). AreKept rules before stage ls [] stage) (sym (ended_none w1 (p.probe ++ bytes) l0 p.no_line reach)) (refl, refl), grew_nil held held' owed sent),
          ));
      read_fault = λ e. absurd (cc);
      before_a_read = λ e. absurd (cc);
      reads = inr passed.still;
      write_fault = λ e. absurd (cc);
      writes = inr wrote;
      after_write_fault = λ e. absurd (cc);
      after_no_memory = λ e. absurd (cc);
      more = λ e. passed.more;
    }

-- there was no memory, and what was owed was written
pub exit_starved : {B K Stage Why : Type 0} (ends : Ends B K) (rules : Rules Stage Why) (before : ℕ) (stage : Stage) (owed : List ℕ) (old new : Reader B) (output output' : K) → Quiet ends.supply old new
    → Appends (ends.held output) (ends.held output') owed → ends.sink_faults output' ≡ ends.sink_faults output
    → Goes ends rules (place_of before stage owed) (view_of old) (reader_source new) output output' (Err NoMemory)
exit_starved ends rules before stage owed old new output output' quiet sent wrote = record {
  kept = tt;
  lines = tt;
  refused = λ h. absurd h;
  read_no_further = λ h. absurd h;
  too_long = λ e. absurd (cc);
  within = inr quiet.within;
  gave = (quiet.got, quiet.gave.bytes, quiet.gave.count);
  past_limit = λ e. absurd (cc);
  read_fault = λ e. absurd (cc);
  before_a_read = λ e. absurd (cc);
  reads = inr quiet.still;
  write_fault = λ e. absurd (cc);
  writes = inr wrote;
  after_write_fault = λ e. absurd (cc);
  after_no_memory = λ e. any_is (ends.supply.rest (reader_source old)) (λ bytes. GrewLines rules (place_of before stage owed) (ends.held output) (ends.held output') (reached_lines (left (view_of old)) (reader_waiting old ++ bytes)))
      (λ bytes. ([], reached_lines (left (view_of old)) (reader_waiting old ++ bytes), refl, ([], stage, (refl, refl), grew_nil (ends.held output) (ends.held output') owed sent)));
  more = λ e. elim e [ inl w ↦ absurd (cc) | inr w ↦ absurd (cc) ];
}

-- states between which nothing failed

pub quiet_ended : {B K : Type 0} (ends : Ends B K) (old new : Reader B) → Ended ends.supply old new → Quiet ends.supply old new
quiet_ended ends old new ended = record { got = []; gave = ended.gave; within = omega (arith, ended.gave.count); still = ended.still }

pub quiet_took : {B K : Type 0} (ends : Ends B K) (before : ℕ) (old new : Reader B) (line : List ℕ) → Took ends.supply before old new line → reader_taken new ≤ reader_limit new
    → Quiet ends.supply old new
quiet_took ends before old new line took within =
    let n = counts ends.supply before old new line took within in
    record { got = took.takes.got; gave = took.takes.gave; within = omega (arith, n.gave, n.room); still = took.still }

-- a write failed: of these clauses only what is owed differs
exit_write_fault : {B K Stage Why : Type 0} (ends : Ends B K) (rules : Rules Stage Why) (before : ℕ) (stage : Stage) (owed : List ℕ) (old new : Reader B) (output output' : K) → Quiet ends.supply old new
    → Rises (ends.sink_faults output) (ends.sink_faults output')
    → IfSome (ends.supply.rest (reader_source old)) (λ bytes. GrewSome rules (place_of before stage owed) (ends.held output) (ends.held output') (left (view_of old)) (reader_waiting old ++ bytes))
    → Goes ends rules (place_of before stage owed) (view_of old) (reader_source new) output output' (Err WriteFault)
exit_write_fault ends rules before stage owed old new output output' quiet rose some = record {
  kept = tt;
  lines = tt;
  refused = λ h. absurd h;
  read_no_further = λ h. absurd h;
  too_long = λ e. absurd (cc);
  within = inr quiet.within;
  gave = (quiet.got, quiet.gave.bytes, quiet.gave.count);
  past_limit = λ e. absurd (cc);
  read_fault = λ e. absurd (cc);
  before_a_read = λ e. absurd (cc);
  reads = inr quiet.still;
  write_fault = λ e. rose;
  writes = inl refl;
  after_write_fault = λ e. some;
  after_no_memory = λ e. absurd (cc);
  more = λ e. elim e [ inl w ↦ absurd (cc) | inr w ↦ absurd (cc) ];
}

-- what was owed was not written
pub exit_unsent : {B K Stage Why : Type 0} (ends : Ends B K) (rules : Rules Stage Why) (before : ℕ) (stage : Stage) (owed : List ℕ) (old new : Reader B) (output output' : K) → Quiet ends.supply old new
    → Rises (ends.sink_faults output) (ends.sink_faults output') → AppendsFront (ends.held output) (ends.held output') owed
    → Goes ends rules (place_of before stage owed) (view_of old) (reader_source new) output output' (Err WriteFault)
exit_unsent ends rules before stage owed old new output output' quiet rose front =
    let all : (bytes : List ℕ) → List (List ℕ) = λ bytes. reached_lines (left (view_of old)) (reader_waiting old ++ bytes) in
    exit_write_fault ends rules before stage owed old new output output' quiet rose
    (any_is (ends.supply.rest (reader_source old)) (λ bytes. GrewSome rules (place_of before stage owed) (ends.held output) (ends.held output') (left (view_of old)) (reader_waiting old ++ bytes))
    (λ bytes. ([], inl ([], all bytes, stage, refl, (refl, refl)), some_front (ends.held output) (ends.held output') owed [] front)))

-- the last text was not written
pub exit_end_unsent : {B K Stage Why : Type 0} (ends : Ends B K) (rules : Rules Stage Why) (before : ℕ) (stage : Stage) (owed tail : List ℕ) (old new : Reader B) (output output' : K) → Ended ends.supply old new
    → rules.ends stage tail → Rises (ends.sink_faults output) (ends.sink_faults output') → AppendsFront (ends.held output) (ends.held output') (owed ++ tail)
    → Goes ends rules (place_of before stage owed) (view_of old) (reader_source new) output output' (Err WriteFault)
exit_end_unsent ends rules before stage owed tail old new output output' ended ends_here rose front =
    exit_write_fault ends rules before stage owed old new output output' (quiet_ended ends old new ended) rose
    (none_is (ends.supply.rest (reader_source old)) (ends.supply.rest (reader_source new)) (reader_waiting old) (GrewSome rules (place_of before stage owed) (ends.held output) (ends.held output') (left (view_of old)))
    ended.gave.bytes ended.none ended.end (tail, inr (omega arith, ([], tail, stage, (refl, refl), ends_here, refl)), front))
