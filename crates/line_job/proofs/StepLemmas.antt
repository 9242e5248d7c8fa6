-- The clauses of a run around a step of its loop.
use Rattle.std.proofs.Common.{◌≡◌, ◌+◌, ◌-◌, ◌<◌, ◌≤◌, ◌++◌, ℕ, Bool, true, false, List, [], length, sym, ◌∙◌, ap, subst, refl, inl, inr, arith, length-append, append-nil, Option, Result, Ok, Err, OnOk}
use Rattle.std.specs.Str.{IsUtf8}
use Rattle.std.specs.Io.KnownBytes.{Appends}
use Rattle.edge_io.specs.Ends.{AppendsFront}
use Rattle.edge_io.specs.declared.ends.Failed.{Failed as SinkFailed}
use Rattle.edge_io.specs.Supply.{Supply, Gave}
use Rattle.edge_io.specs.Supply.Laws.{gave_none}
use Rattle.whiteread.specs.Lines.{lines_of, without_feed, HasNoFeed}
use Rattle.whiteread.specs.ReaderState.{reader_source, reader_limit, reader_taken, reader_waiting, reader_line, ShowsSame}
use Rattle.whiteread.specs.declared.reader.Reader.{Reader}
use Rattle.line_job.specs.declared.stop.Stop.{Stop}
use Rattle.line_job.specs.declared.stop.Stop.TheVariants.{Line, NotUtf8, TooLong, ReadFault, WriteFault, NoMemory}
use Rattle.line_job.specs.Stop.{IsOfLines}
use Rattle.line_job.specs.Rules.{Rules, AreKept}
use Rattle.line_job.specs.declared.reading.LineFault.{LineFault}
use Rattle.line_job.specs.declared.reading.LineFault.TheVariants.{NotUtf8 as FaultUtf8}
use Rattle.line_job.specs.Inner.NextLine.{Took, Failed, Passed, Quiet, NextLine}
use Rattle.line_job.specs.Inner.Goes.{Ends, View, Place, place_of, view_of, left, Goes, LeadsTo}
use Rattle.line_job.specs.Inner.Step.{SentOr, SentIfDue, Judged, LineStep, StepRefused, EndStep, SentBefore}
use Rattle.line_job.proofs.LineLemmas.{first_some, no_feed_front, utf8_whole}
use Rattle.line_job.proofs.EndLemmas.{none_is}
use Rattle.line_job.proofs.GoesLemmas.{counts, goes_line, goes_sent, leads_line}
use Rattle.line_job.proofs.ExitLemmas.{exit_end, exit_missing, exit_refused, exit_failed, exit_passed, exit_starved, exit_unsent, exit_end_unsent, quiet_ended, quiet_took}

abbrev pub view : {B : Type 0} → B → List ℕ → ℕ → List ℕ → View B
view source waiting room line = record { source = source; waiting = waiting; room = room; line = line }

pub view_is : {B : Type 0} (s s' : B) (w w' : List ℕ) (r r' : ℕ) (l l' : List ℕ) → s' ≡ s → w' ≡ w → r' ≡ r → l' ≡ l → view s' w' r' l' ≡ view s w r l
view_is s s' w w' r r' l l' p q x y = λ i. view (p i) (q i) (x i) (y i)

same_view : {B : Type 0} (old new : Reader B) → ShowsSame old new → view_of new ≡ view_of old
same_view old new same = view_is (reader_source old) (reader_source new) (reader_waiting old) (reader_waiting new) (reader_limit old - reader_taken old) (reader_limit new - reader_taken new) (reader_line old) (reader_line new)
    same.stays.source same.stays.waiting (ap (λ (n : ℕ). n - reader_taken new) same.stays.limit ∙ ap (λ (n : ℕ). reader_limit old - n) same.stays.taken) same.stays.line

quiet_same : {B : Type 0} (supply : Supply B) (old new : Reader B) → ShowsSame old new → Quiet supply old new
quiet_same {B = B} supply old new same =
    let is : supply.given (reader_source new) ≡ supply.given (reader_source old) = ap supply.given same.stays.source in
    record {
      got = [];
      gave = subst (λ (b : B). Gave supply (reader_source old) b []) (sym same.stays.source) (gave_none supply (reader_source old));
      within = omega (arith, is);
      still = ap supply.faults same.stays.source;
    }

-- the batch may have been due
pub goes_due : {B K Stage Why : Type 0} (ends : Ends B K) (rules : Rules Stage Why) (before : ℕ) (stage : Stage) (old new : Reader B) (batch batch' : List ℕ) (source' : B) (output mid output' : K) (result : Result ℕ (Stop Why))
    → ShowsSame old new → SentOr ends.held ends.sink_faults new output mid batch batch'
    → Goes ends rules (place_of before stage batch') (view_of new) source' mid output' result → Goes ends rules (place_of before stage batch) (view_of old) source' output output' result
goes_due {B = B} ends rules before stage old new batch batch' source' output mid output' result same (inl sent) goes =
    goes_sent ends rules before stage batch (view_of old) source' output mid output' result sent.1 sent.2
    (subst (λ (v : View B). Goes ends rules (place_of before stage []) v source' mid output' result) (same_view old new same)
    (subst (λ (b : List ℕ). Goes ends rules (place_of before stage b) (view_of new) source' mid output' result) sent.0 goes))
goes_due {B = B} {K = K} ends rules before stage old new batch batch' source' output mid output' result same (inr kept) goes =
    subst (λ (v : View B). Goes ends rules (place_of before stage batch) v source' output output' result) (same_view old new same)
    (subst (λ (o : K). Goes ends rules (place_of before stage batch) (view_of new) source' o output' result) kept.1
    (subst (λ (b : List ℕ). Goes ends rules (place_of before stage b) (view_of new) source' mid output' result) kept.0 goes))

-- the batch was due, and was not written
pub goes_undue : {B K Stage Why : Type 0} (ends : Ends B K) (rules : Rules Stage Why) (before : ℕ) (stage : Stage) (old new : Reader B) (batch batch' : List ℕ) (output output' : K) (failed : SinkFailed)
    → SentIfDue ends.held ends.sink_faults old new output output' batch batch' (Err failed) → Goes ends rules (place_of before stage batch) (view_of old) (reader_source new) output output' (Err WriteFault)
goes_undue ends rules before stage old new batch batch' output output' failed sent =
    exit_unsent ends rules before stage batch old new output output' (quiet_same ends.supply old new sent.0) sent.1.1 sent.1.2

-- a line was taken and kept
pub goes_step : {B K Stage Why : Type 0} (ends : Ends B K) (rules : Rules Stage Why) (before : ℕ) (stage next : Stage) (old new : Reader B) (batch batch' : List ℕ) (source' : B) (output output' : K) (result : Result ℕ (Stop Why))
    → reader_taken new ≤ reader_limit new → LineStep ends.supply rules before old new stage next batch batch' (Ok true)
    → Goes ends rules (place_of (before + 1) next batch') (view_of new) source' output output' result → Goes ends rules (place_of before stage batch) (view_of old) source' output output' result
goes_step ends rules before stage next old new batch batch' source' output output' result within (line, text, took, keeps, e, current) goes =
    goes_line ends rules before stage next batch text old new source' output output' result line took current within keeps
    (subst (λ (b : List ℕ). Goes ends rules (place_of (before + 1) next b) (view_of new) source' output output' result) e goes)

-- nothing is owed where no whole line waits
nothing_owed : {B K : Type 0} (held : K → Option (List ℕ)) (faults : K → ℕ) (reader : Reader B) (output mid : K) (batch batch' : List ℕ) → SentOr held faults reader output mid batch batch' → HasNoFeed (reader_waiting reader) → batch' ≡ []
nothing_owed held faults reader output mid batch batch' (inl sent) none = sent.0
nothing_owed held faults reader output mid batch batch' (inr kept) none = absurd (kept.2 none)

-- a result that a step gave is that which was answered
answered : {B K Stage Why : Type 0} (ends : Ends B K) (rules : Rules Stage Why) (place : Place Stage) (old : View B) (source' : B) (output output' : K) (result answer : Result ℕ (Stop Why))
    → result ≡ answer → Goes ends rules place old source' output output' answer → Goes ends rules place old source' output output' result
answered {Why = Why} ends rules place old source' output output' result answer is goes = subst (λ (r : Result ℕ (Stop Why)). Goes ends rules place old source' output output' r) (sym is) goes

grown : {K : Type 0} (held : K → Option (List ℕ)) (output output' : K) (a b : List ℕ) → b ≡ a → Appends (held output) (held output') b → Appends (held output) (held output') a
grown held output output' a b e sent = subst (λ (t : List ℕ). Appends (held output) (held output') t) e sent

grown_front : {K : Type 0} (held : K → Option (List ℕ)) (output output' : K) (a b : List ℕ) → b ≡ a → AppendsFront (held output) (held output') b → AppendsFront (held output) (held output') a
grown_front held output output' a b e front = subst (λ (t : List ℕ). AppendsFront (held output) (held output') t) e front

-- no line is left
pub goes_end : {B K Stage Why : Type 0} (ends : Ends B K) (rules : Rules Stage Why) (before : ℕ) (stage next : Stage) (old new : Reader B) (batch mid_batch batch' : List ℕ) (output output' : K) (answer result : Result ℕ (Stop Why))
    → LineStep ends.supply rules before old new stage next batch mid_batch (Ok false) → EndStep rules before next mid_batch batch' answer → SentBefore ends.held ends.sink_faults output output' batch' answer result
    → Goes ends rules (place_of before stage batch) (view_of old) (reader_source new) output output' result
goes_end {Stage = Stage} {Why = Why} ends rules before stage next old new batch mid_batch batch' output output' (Ok n) result (ended, there, same) (count, (tail, ends_there, e)) (inl (sent, still, is)) =
    let ends_here : rules.ends stage tail = subst (λ (s : Stage). rules.ends s tail) there ends_there in
    let owes : batch' ≡ batch ++ tail = e ∙ ap (λ (t : List ℕ). t ++ tail) same in
    answered ends rules (place_of before stage batch) (view_of old) (reader_source new) output output' result (Ok before) (is ∙ ap Ok count)
    (exit_end ends rules before stage batch tail old new output output' ended ends_here (grown ends.held output output' (batch ++ tail) batch' owes sent) still)
goes_end {Stage = Stage} ends rules before stage next old new batch mid_batch batch' output output' (Ok n) result (ended, there, same) (count, (tail, ends_there, e)) (inr (unsent, is)) =
    let ends_here : rules.ends stage tail = subst (λ (s : Stage). rules.ends s tail) there ends_there in
    let owes : batch' ≡ batch ++ tail = e ∙ ap (λ (t : List ℕ). t ++ tail) same in
    answered ends rules (place_of before stage batch) (view_of old) (reader_source new) output output' result (Err WriteFault) is
    (exit_end_unsent ends rules before stage batch tail old new output output' ended ends_here unsent.1 (grown_front ends.held output output' (batch ++ tail) batch' owes unsent.2))
goes_end {Stage = Stage} ends rules before stage next old new batch mid_batch batch' output output' (Err (Line why)) result (ended, there, same) (miss, e) (inl (sent, still, is)) =
    answered ends rules (place_of before stage batch) (view_of old) (reader_source new) output output' result (Err (Line why)) is
    (exit_missing ends rules before stage batch old new output output' why ended (subst (λ (s : Stage). rules.misses s before why) there miss) (grown ends.held output output' batch batch' (e ∙ same) sent) still)
goes_end ends rules before stage next old new batch mid_batch batch' output output' (Err (Line why)) result (ended, there, same) (miss, e) (inr (unsent, is)) =
    answered ends rules (place_of before stage batch) (view_of old) (reader_source new) output output' result (Err WriteFault) is
    (exit_unsent ends rules before stage batch old new output output' (quiet_ended ends old new ended) unsent.1 (grown_front ends.held output output' batch batch' (e ∙ same) unsent.2))
goes_end ends rules before stage next old new batch mid_batch batch' output output' (Err NoMemory) result (ended, there, same) e (inl (sent, still, is)) =
    answered ends rules (place_of before stage batch) (view_of old) (reader_source new) output output' result (Err NoMemory) is
    (exit_starved ends rules before stage batch old new output output' (quiet_ended ends old new ended) (grown ends.held output output' batch batch' (e ∙ same) sent) still)
goes_end ends rules before stage next old new batch mid_batch batch' output output' (Err NoMemory) result (ended, there, same) e (inr (unsent, is)) =
    answered ends rules (place_of before stage batch) (view_of old) (reader_source new) output output' result (Err WriteFault) is
    (exit_unsent ends rules before stage batch old new output output' (quiet_ended ends old new ended) unsent.1 (grown_front ends.held output output' batch batch' (e ∙ same) unsent.2))
goes_end ends rules before stage next old new batch mid_batch batch' output output' (Err (NotUtf8 line)) result step end sent = absurd end
goes_end ends rules before stage next old new batch mid_batch batch' output output' (Err TooLong) result step end sent = absurd end
goes_end ends rules before stage next old new batch mid_batch batch' output output' (Err ReadFault) result step end sent = absurd end
goes_end ends rules before stage next old new batch mid_batch batch' output output' (Err WriteFault) result step end sent = absurd end

-- a line was refused
refused_sent : {B K Stage Why : Type 0} (ends : Ends B K) (rules : Rules Stage Why) (before : ℕ) (stage : Stage) (old new : Reader B) (batch batch' : List ℕ) (output output' : K) (stop : Stop Why) (result : Result ℕ (Stop Why))
    → IsOfLines stop → reader_taken new ≤ reader_limit new → StepRefused ends.supply rules before old new stage stop → batch' ≡ batch → SentBefore ends.held ends.sink_faults output output' batch' (Err stop) result
    → Goes ends rules (place_of before stage batch) (view_of old) (reader_source new) output output' result
refused_sent ends rules before stage old new batch batch' output output' stop result of_lines within (line, took, bad) same (inl (sent, still, is)) =
    answered ends rules (place_of before stage batch) (view_of old) (reader_source new) output output' result (Err stop) is
    (exit_refused ends rules before stage batch old new output output' stop line took within of_lines bad (grown ends.held output output' batch batch' same sent) still)
refused_sent ends rules before stage old new batch batch' output output' stop result of_lines within (line, took, bad) same (inr (unsent, is)) =
    answered ends rules (place_of before stage batch) (view_of old) (reader_source new) output output' result (Err WriteFault) is
    (exit_unsent ends rules before stage batch old new output output' (quiet_took ends before old new line took within) unsent.1 (grown_front ends.held output output' batch batch' same unsent.2))

-- a step was refused, and what was owed was written before the answer
pub goes_stopped : {B K Stage Why : Type 0} (ends : Ends B K) (rules : Rules Stage Why) (before : ℕ) (stage next : Stage) (old new : Reader B) (batch0 batch batch' : List ℕ) (output mid output' : K) (stop : Stop Why) (result : Result ℕ (Stop Why))
    → reader_taken new ≤ reader_limit new → SentOr ends.held ends.sink_faults old output mid batch0 batch → LineStep ends.supply rules before old new stage next batch batch' (Err stop)
    → SentBefore ends.held ends.sink_faults mid output' batch' (Err stop) result → Goes ends rules (place_of before stage batch) (view_of old) (reader_source new) mid output' result
goes_stopped ends rules before stage next old new batch0 batch batch' output mid output' ReadFault result within due step (inl (sent, still, is)) =
    let failed : Failed ends.supply old new = step.0 in
    answered ends rules (place_of before stage batch) (view_of old) (reader_source new) mid output' result (Err ReadFault) is
    (goes_sent ends rules before stage batch (view_of old) (reader_source new) mid output' output' (Err ReadFault) (grown ends.held mid output' batch batch' step.1 sent) still (exit_failed ends rules before stage old new output' failed within))
goes_stopped ends rules before stage next old new batch0 batch batch' output mid output' ReadFault result within due step (inr (unsent, is)) =
    let failed : Failed ends.supply old new = step.0 in
    let none : batch ≡ [] = nothing_owed ends.held ends.sink_faults old output mid batch0 batch due (no_feed_front (reader_waiting old) failed.waits.got (subst HasNoFeed failed.waits.waits failed.no_feed)) in
    absurd (unsent.0 (step.1 ∙ none))
goes_stopped ends rules before stage next old new batch0 batch batch' output mid output' TooLong result within due step (inl (sent, still, is)) =
    answered ends rules (place_of before stage batch) (view_of old) (reader_source new) mid output' result (Err TooLong) is
    (exit_passed ends rules before stage batch old new mid output' step.0 (grown ends.held mid output' batch batch' step.1 sent) still)
goes_stopped ends rules before stage next old new batch0 batch batch' output mid output' TooLong result within due step (inr (unsent, is)) =
    let passed : Passed ends.supply old new = step.0 in
    let none : batch ≡ [] = nothing_owed ends.held ends.sink_faults old output mid batch0 batch due (no_feed_front (reader_waiting old) passed.passes.got (subst HasNoFeed passed.passes.waits passed.passes.no_line)) in
    absurd (unsent.0 (step.1 ∙ none))
goes_stopped ends rules before stage next old new batch0 batch batch' output mid output' NoMemory result within due step (inl (sent, still, is)) =
    answered ends rules (place_of before stage batch) (view_of old) (reader_source new) mid output' result (Err NoMemory) is
    (exit_starved ends rules before stage batch old new mid output' step.0 (grown ends.held mid output' batch batch' step.1 sent) still)
goes_stopped ends rules before stage next old new batch0 batch batch' output mid output' NoMemory result within due step (inr (unsent, is)) =
    answered ends rules (place_of before stage batch) (view_of old) (reader_source new) mid output' result (Err WriteFault) is
    (exit_unsent ends rules before stage batch old new mid output' step.0 unsent.1 (grown_front ends.held mid output' batch batch' step.1 unsent.2))
goes_stopped ends rules before stage next old new batch0 batch batch' output mid output' WriteFault result within due step sent = absurd step
goes_stopped ends rules before stage next old new batch0 batch batch' output mid output' (NotUtf8 line) result within due step sent =
    refused_sent ends rules before stage old new batch batch' mid output' (NotUtf8 line) result tt within step.0 step.1 sent
goes_stopped ends rules before stage next old new batch0 batch batch' output mid output' (Line why) result within due step sent =
    refused_sent ends rules before stage old new batch batch' mid output' (Line why) result tt within step.0 step.1 sent

-- a line was taken, and judged or passed

quiet_of : {B : Type 0} (supply : Supply B) (before : ℕ) (old new : Reader B) (line : List ℕ) → Took supply before old new line → reader_taken new ≤ reader_limit new → Quiet supply old new
quiet_of supply before old new line took within =
    let n = counts supply before old new line took within in
    record { got = took.takes.got; gave = took.takes.gave; within = omega (arith, n.gave, n.room); still = took.still }

pub step_passed : {B Stage Why : Type 0} (supply : Supply B) (rules : Rules Stage Why) (before : ℕ) (old new : Reader B) (stage : Stage) (batch : List ℕ) (line : List ℕ)
    → Took supply before old new line → rules.judges stage ≡ false → LineStep supply rules before old new stage stage batch batch (Ok true)
step_passed supply rules before old new stage batch line took passed = (line, [], took, inr (passed, refl, refl), sym (append-nil batch), inr refl)

pub step_judged : {B Stage Why : Type 0} (supply : Supply B) (rules : Rules Stage Why) (before : ℕ) (old new : Reader B) (stage next : Stage) (batch batch' text : List ℕ) (answer : Result Bool (Stop Why))
    → Took supply before old new (reader_line new) → reader_taken new ≤ reader_limit new → text ≡ without_feed (reader_line new) → IsUtf8 text → rules.judges stage ≡ true
    → Judged rules stage (before + 1) text next batch batch' answer → LineStep supply rules before old new stage next batch batch' answer
step_judged supply rules before old new stage next batch batch' text (Ok true) took within is utf8 judges (found, (owed, kept, e)) =
    let keeps : List ℕ → Type 0 = λ (l : List ℕ). IsUtf8 l × rules.keeps stage (before + 1) l owed next in
    let here = subst keeps is (utf8, kept) in
    (reader_line new, owed, took, inl (judges, here.0, here.1), e, inl refl)
step_judged supply rules before old new stage next batch batch' text (Ok false) took within is utf8 judges (found, (owed, kept, e)) = absurd (cc)
step_judged supply rules before old new stage next batch batch' text (Err (Line why)) took within is utf8 judges (bad, e) =
    let refuses : List ℕ → Type 0 = λ (l : List ℕ). IsUtf8 l × rules.refuses stage (before + 1) l why in
    let here = subst refuses is (utf8, bad) in
    ((reader_line new, took, (judges, inr (here.0, (why, here.1, refl)))), e)
step_judged supply rules before old new stage next batch batch' text (Err NoMemory) took within is utf8 judges e = (quiet_of supply before old new (reader_line new) took within, e)
step_judged supply rules before old new stage next batch batch' text (Err (NotUtf8 bad)) took within is utf8 judges judged = absurd judged
step_judged supply rules before old new stage next batch batch' text (Err TooLong) took within is utf8 judges judged = absurd judged
step_judged supply rules before old new stage next batch batch' text (Err ReadFault) took within is utf8 judges judged = absurd judged
step_judged supply rules before old new stage next batch batch' text (Err WriteFault) took within is utf8 judges judged = absurd judged

-- a line that isn't UTF-8

pub not_utf8 : {B : Type 0} (supply : Supply B) (before number : ℕ) (old new : Reader B) (fault : LineFault) → fault ≡ FaultUtf8 number → NextLine supply before old (Err fault) new
    → NextLine supply before old (Err (FaultUtf8 number)) new
not_utf8 supply before number old new fault is next = subst (λ (f : LineFault). NextLine supply before old (Err f) new) is next

pub step_not_utf8 : {B Stage Why : Type 0} (supply : Supply B) (rules : Rules Stage Why) (before number : ℕ) (old new : Reader B) (stage next : Stage) (batch : List ℕ)
    → NextLine supply before old (Err (FaultUtf8 number)) new → rules.judges stage ≡ true → LineStep supply rules before old new stage next batch batch (Err (NotUtf8 number))
step_not_utf8 supply rules before number old new stage next batch (line, took, bad, is) judges =
    let whole : ¬ IsUtf8 (without_feed line) = λ utf8. bad (utf8_whole line (reader_waiting new) took.takes.first utf8) in
    ((line, took, (judges, inl (whole, ap NotUtf8 is))), refl)

-- each line takes bytes
pub left_falls : {B : Type 0} (supply : Supply B) (before : ℕ) (first old new : Reader B) (line : List ℕ)
    → ShowsSame first old → Took supply before old new line → reader_taken new ≤ reader_limit new → left (view_of new) < left (view_of first)
left_falls supply before first old new line same took within =
    let cut : length (reader_waiting old) + length took.takes.got ≡ length line + length (reader_waiting new) =
    sym (length-append (reader_waiting old) took.takes.got) ∙ ap length took.takes.cut ∙ length-append line (reader_waiting new) in
    omega (arith, cut, took.takes.taken, took.limit, within, same.stays.taken, same.stays.limit, ap length same.stays.waiting, first_some line (reader_waiting new) took.takes.first)

-- where the job stands

-- nothing was taken
pub leads_due : {B K Stage Why : Type 0} (ends : Ends B K) (rules : Rules Stage Why) (before : ℕ) (stage last : Stage) (old new : Reader B)
    → ShowsSame old new → LeadsTo ends rules before stage (view_of new) last → LeadsTo ends rules before stage (view_of old) last
leads_due {B = B} ends rules before stage last old new same leads = subst (λ (v : View B). LeadsTo ends rules before stage v last) (same_view old new same) leads

-- a line was taken and kept
pub leads_step : {B K Stage Why : Type 0} (ends : Ends B K) (rules : Rules Stage Why) (before : ℕ) (stage next last : Stage) (old new : Reader B) (batch batch' : List ℕ)
    → LineStep ends.supply rules before old new stage next batch batch' (Ok true) → LeadsTo ends rules (before + 1) next (view_of new) last → LeadsTo ends rules before stage (view_of old) last
leads_step ends rules before stage next last old new batch batch' (line, text, took, keeps, e, current) leads =
    leads_line ends rules before stage next last text old new line took keeps leads

-- no line is left
pub leads_end : {B K Stage Why : Type 0} (ends : Ends B K) (rules : Rules Stage Why) (before : ℕ) (stage next : Stage) (old new : Reader B) (batch batch' : List ℕ)
    → LineStep ends.supply rules before old new stage next batch batch' (Ok false) → LeadsTo ends rules before stage (view_of old) next
leads_end ends rules before stage next old new batch batch' (ended, there, same) =
    none_is (ends.supply.rest (reader_source old)) (ends.supply.rest (reader_source new)) (reader_waiting old) (λ bytes. (text : List ℕ) × AreKept rules before stage (lines_of bytes) text next)
    ended.gave.bytes ended.none ended.end ([], (refl, there))

-- a refusal stays one
pub never_ok : {K Why : Type 0} (A : Type 0) (held : K → Option (List ℕ)) (faults : K → ℕ) (output output' : K) (batch : List ℕ) (stop : Stop Why) (result : Result ℕ (Stop Why))
    → SentBefore held faults output output' batch (Err stop) result → OnOk result A
never_ok {Why = Why} A held faults output output' batch stop result (inl (sent, still, is)) = subst (λ (r : Result ℕ (Stop Why)). OnOk r A) (sym is) tt
never_ok {Why = Why} A held faults output output' batch stop result (inr (unsent, is)) = subst (λ (r : Result ℕ (Stop Why)). OnOk r A) (sym is) tt
