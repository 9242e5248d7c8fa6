-- What the parts of the loop leave.
use Rattle.std.specs.Prelude.{◌≡◌, ◌≢◌, ◌⊎◌, ◌+◌, ℕ, List, [], ◌++◌, Bool, true, false, Option, Result, Ok, Err}
use Rattle.std.specs.Io.KnownBytes.{Appends}
use Rattle.edge_io.specs.Ends.{Rises, AppendsFront}
use Rattle.edge_io.specs.declared.ends.Failed.{Failed as SinkFailed}
use Rattle.edge_io.specs.Supply.{Supply}
use Rattle.whiteread.specs.Lines.{without_feed, HasNoFeed}
use Rattle.whiteread.specs.ReaderState.{reader_waiting, reader_line, ShowsSame}
use Rattle.whiteread.specs.declared.reader.Reader.{Reader}
use Rattle.line_job.specs.declared.stop.Stop.{Stop}
use Rattle.line_job.specs.declared.stop.Stop.TheVariants.{Line, NotUtf8, TooLong, ReadFault, WriteFault, NoMemory}
use Rattle.line_job.specs.Rules.{Rules, KeepsLine, RefusesLine}
use Rattle.line_job.specs.Inner.NextLine.{Took, Ended, Failed, Passed, Quiet}

-- the batch was written, or nothing was done and a whole line waits
abbrev pub SentOr : {B K : Type 0} → (K → Option (List ℕ)) → (K → ℕ) → Reader B → K → K → List ℕ → List ℕ → Type 0
SentOr held faults new output output' batch batch' =
    ((batch' ≡ []) × Appends (held output) (held output') batch × (faults output' ≡ faults output)) ⊎ ((batch' ≡ batch) × (output' ≡ output) × (¬ HasNoFeed (reader_waiting new)))

-- there was something to write, a front of it was written, and a fault was counted
abbrev pub IsUnsent : {K : Type 0} → (K → Option (List ℕ)) → (K → ℕ) → K → K → List ℕ → Type 0
IsUnsent held faults output output' batch = (batch ≢ []) × Rises (faults output) (faults output') × AppendsFront (held output) (held output') batch

-- what stands after the writing of a batch that may be due
abbrev pub SentIfDue : {B K : Type 0} → (K → Option (List ℕ)) → (K → ℕ) → Reader B → Reader B → K → K → List ℕ → List ℕ → Result Unit SinkFailed → Type 0
SentIfDue held faults old new output output' batch batch' (Ok done) = ShowsSame old new × SentOr held faults new output output' batch batch'
SentIfDue held faults old new output output' batch batch' (Err failed) = ShowsSame old new × IsUnsent held faults output output' batch

-- a line was taken and refused, and nothing was added to the batch
abbrev pub StepRefused : {B Stage Why : Type 0} → Supply B → Rules Stage Why → ℕ → Reader B → Reader B → Stage → Stop Why → Type 0
StepRefused supply rules before old new stage stop =
    (line : List ℕ) × Took supply before old new line × RefusesLine rules stage (before + 1) (without_feed line) stop

-- what stands after each answer of a step of the loop: the next line is taken and judged, or none is left
abbrev pub LineStep : {B Stage Why : Type 0} → Supply B → Rules Stage Why → ℕ → Reader B → Reader B → Stage → Stage → List ℕ → List ℕ → Result Bool (Stop Why) → Type 0
LineStep supply rules before old new stage next batch batch' (Ok true) =
    (line : List ℕ) × (text : List ℕ) × Took supply before old new line × KeepsLine rules stage (before + 1) (without_feed line) text next × (batch' ≡ batch ++ text)
    × ((reader_line new ≡ line) ⊎ (text ≡ []))
LineStep supply rules before old new stage next batch batch' (Ok false) = Ended supply old new × (next ≡ stage) × (batch' ≡ batch)
LineStep supply rules before old new stage next batch batch' (Err ReadFault) = Failed supply old new × (batch' ≡ batch)
LineStep supply rules before old new stage next batch batch' (Err TooLong) = Passed supply old new × (batch' ≡ batch)
LineStep supply rules before old new stage next batch batch' (Err NoMemory) = Quiet supply old new × (batch' ≡ batch)
LineStep supply rules before old new stage next batch batch' (Err WriteFault) = ⊥
LineStep supply rules before old new stage next batch batch' (Err (NotUtf8 line)) = StepRefused supply rules before old new stage (NotUtf8 line) × (batch' ≡ batch)
LineStep supply rules before old new stage next batch batch' (Err (Line why)) = StepRefused supply rules before old new stage (Line why) × (batch' ≡ batch)

-- what stands after each answer of the judging of a line
abbrev pub Judged : {Stage Why : Type 0} → Rules Stage Why → Stage → ℕ → List ℕ → Stage → List ℕ → List ℕ → Result Bool (Stop Why) → Type 0
Judged rules stage number line next batch batch' (Ok found) = (found ≡ true) × ((text : List ℕ) × rules.keeps stage number line text next × (batch' ≡ batch ++ text))
Judged rules stage number line next batch batch' (Err (Line why)) = rules.refuses stage number line why × (batch' ≡ batch)
Judged rules stage number line next batch batch' (Err NoMemory) = batch' ≡ batch
Judged rules stage number line next batch batch' (Err (NotUtf8 bad)) = ⊥
Judged rules stage number line next batch batch' (Err TooLong) = ⊥
Judged rules stage number line next batch batch' (Err ReadFault) = ⊥
Judged rules stage number line next batch batch' (Err WriteFault) = ⊥

-- what stands after each answer of the end
abbrev pub EndStep : {Stage Why : Type 0} → Rules Stage Why → ℕ → Stage → List ℕ → List ℕ → Result ℕ (Stop Why) → Type 0
EndStep rules before stage batch batch' (Ok lines) = (lines ≡ before) × ((text : List ℕ) × rules.ends stage text × (batch' ≡ batch ++ text))
EndStep rules before stage batch batch' (Err (Line why)) = rules.misses stage before why × (batch' ≡ batch)
EndStep rules before stage batch batch' (Err NoMemory) = batch' ≡ batch
EndStep rules before stage batch batch' (Err (NotUtf8 line)) = ⊥
EndStep rules before stage batch batch' (Err TooLong) = ⊥
EndStep rules before stage batch batch' (Err ReadFault) = ⊥
EndStep rules before stage batch batch' (Err WriteFault) = ⊥

-- the batch was written and the answer given, or it wasn't written
abbrev pub SentBefore : {K Why : Type 0} → (K → Option (List ℕ)) → (K → ℕ) → K → K → List ℕ → Result ℕ (Stop Why) → Result ℕ (Stop Why) → Type 0
SentBefore held faults output output' batch answer result =
    (Appends (held output) (held output') batch × (faults output' ≡ faults output) × (result ≡ answer)) ⊎ (IsUnsent held faults output output' batch × (result ≡ Err WriteFault))
