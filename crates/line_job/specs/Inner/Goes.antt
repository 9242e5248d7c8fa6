-- What a run does from one of its lines on, and the clauses that it keeps.
use Rattle.std.specs.Prelude.{◌≡◌, ◌<◌, ◌≤◌, ◌⊎◌, ◌+◌, ◌-◌, ℕ, List, [], ◌++◌, length, Option, Result, IfSome, IfOk, IfErr, OnOk, IsErrOf}
use Rattle.std.specs.Io.KnownBytes.{Appends, Consumes, IsAtEnd}
use Rattle.edge_io.specs.Ends.{Rises, AppendsFront}
use Rattle.edge_io.specs.Supply.{Supply}
use Rattle.whiteread.specs.Lines.{lines_of}
use Rattle.whiteread.specs.ReaderState.{reader_source, reader_waiting, reader_line}
use Rattle.whiteread.specs.declared.reader.Reader.{Reader}
use Rattle.line_job.specs.declared.stop.Stop.{Stop}
use Rattle.line_job.specs.declared.stop.Stop.TheVariants.{TooLong, ReadFault, WriteFault, NoMemory}
use Rattle.line_job.specs.Stop.{IsOfLines}
use Rattle.line_job.specs.Rules.{Rules, AreKept, WereKept, AreAllKept, AreRefused}
use Rattle.line_job.specs.Reached.{reaches_end, one_read, ended_lines, reached_lines}
use Rattle.line_job.specs.Inner.NextLine.{IsOpen, left_to_take}

-- what the ends show of themselves
pub record Ends (B K : Type 0) : Type 0 where
  pub supply : Supply B
  pub held : K → Option (List ℕ)
  pub sink_faults : K → ℕ

abbrev pub ends_of : {B K : Type 0} → Supply B → (K → Option (List ℕ)) → (K → ℕ) → Ends B K
ends_of supply held sink_faults = record { supply = supply; held = held; sink_faults = sink_faults }

-- what a run needs of a reader: its source, the bytes that wait, how many more it may take, and the current line
pub record View (B : Type 0) : Type 0 where
  pub source : B
  pub waiting : List ℕ
  pub room : ℕ
  pub line : List ℕ

abbrev pub view_of : {B : Type 0} → Reader B → View B
view_of reader = record { source = reader_source reader; waiting = reader_waiting reader; room = left_to_take reader; line = reader_line reader }

-- how many bytes can still be reached
abbrev pub left : {B : Type 0} → View B → ℕ
left old = length old.waiting + old.room

-- where a run stands: so many lines were taken, the job is at this stage, and this text is owed and not written
pub record Place (Stage : Type 0) : Type 0 where
  pub before : ℕ
  pub stage : Stage
  pub owed : List ℕ

abbrev pub place_of : {Stage : Type 0} → ℕ → Stage → List ℕ → Place Stage
place_of before stage owed = record { before = before; stage = stage; owed = owed }

-- the place before the first line
abbrev pub first_place : {Stage : Type 0} → Stage → Place Stage
first_place start = place_of 0 start []

-- a fact of the bytes that are still to come, where they are told
abbrev pub Ahead : {B K : Type 0} → Ends B K → View B → (List ℕ → Type 0) → Type 0
Ahead ends old P = IfSome (ends.supply.rest old.source) (λ bytes. P (old.waiting ++ bytes))

-- all lines are kept, and the sink took all that is owed
abbrev pub GrewAll : {Stage Why : Type 0} → Rules Stage Why → Place Stage → Option (List ℕ) → Option (List ℕ) → List (List ℕ) → Type 0
GrewAll rules place held held' lines = (text : List ℕ) × AreAllKept rules place.before place.stage lines text × Appends held held' (place.owed ++ text)

-- these lines are kept, and the sink took what was owed and what is owed for them
abbrev pub Grew : {Stage Why : Type 0} → Rules Stage Why → Place Stage → Option (List ℕ) → Option (List ℕ) → List (List ℕ) → Type 0
Grew {Stage = Stage} rules place held held' lines = (text : List ℕ) × (last : Stage) × AreKept rules place.before place.stage lines text last × Appends held held' (place.owed ++ text)

-- the sink took what was owed and what is owed for lines at the front of these
abbrev pub GrewLines : {Stage Why : Type 0} → Rules Stage Why → Place Stage → Option (List ℕ) → Option (List ℕ) → List (List ℕ) → Type 0
GrewLines rules place held held' lines = (front : List (List ℕ)) × (more : List (List ℕ)) × (lines ≡ front ++ more) × Grew rules place held held' front

-- the sink took a front of what was owed and what is owed for lines at the front of these, or for all of the input
abbrev pub GrewSome : {Stage Why : Type 0} → Rules Stage Why → Place Stage → Option (List ℕ) → Option (List ℕ) → ℕ → List ℕ → Type 0
GrewSome {Stage = Stage} rules place held held' limit bytes = (text : List ℕ)
    × (((front : List (List ℕ)) × (more : List (List ℕ)) × (last : Stage) × (reached_lines limit bytes ≡ front ++ more) × AreKept rules place.before place.stage front text last)
    ⊎ ((length bytes ≤ limit) × AreAllKept rules place.before place.stage (lines_of bytes) text))
    × AppendsFront held held' (place.owed ++ text)

-- one of the lines that are reached, or the end, is refused, and the sink took what was owed and what is owed for the lines before
abbrev pub GrewRefused : {Stage Why : Type 0} → Rules Stage Why → Place Stage → Option (List ℕ) → Option (List ℕ) → Stop Why → ℕ → List ℕ → Type 0
GrewRefused rules place held held' stop limit bytes = (text : List ℕ)
    × AreRefused rules (reaches_end limit bytes) place.before place.stage (reached_lines limit bytes) text stop × Appends held held' (place.owed ++ text)

-- the lines that are still to come are kept, and lead the job from this place to that stage
abbrev pub LeadsTo : {B K Stage Why : Type 0} → Ends B K → Rules Stage Why → ℕ → Stage → View B → Stage → Type 0
LeadsTo ends rules before stage old last = Ahead ends old (λ bytes. (text : List ℕ) × AreKept rules before stage (lines_of bytes) text last)

-- what a run does from the next line on
pub record Goes {B K Stage Why : Type 0} (ends : Ends B K) (rules : Rules Stage Why) (place : Place Stage) (old : View B) (source' : B) (output output' : K) (result : Result ℕ (Stop Why)) : Type 0 where
  pub kept : OnOk result (Ahead ends old (λ bytes. IsAtEnd (ends.supply.rest source') × GrewAll rules place (ends.held output) (ends.held output') (lines_of bytes)))
  pub lines : IfOk result (λ n. Ahead ends old (λ bytes. (place.before + length (lines_of bytes) ≡ n) × (length bytes ≤ left old)))
  pub refused : IfErr result (λ stop. IsOfLines stop → Ahead ends old (GrewRefused rules place (ends.held output) (ends.held output') stop (left old)))
  pub read_no_further : IfErr result (λ stop. IsOfLines stop
      → Ahead ends old (λ bytes. WereKept rules place.before place.stage (ended_lines (length old.waiting + (ends.supply.given source' - ends.supply.given old.source) - one_read) bytes)))
  pub too_long : IsErrOf result TooLong → ends.supply.given source' ≡ ends.supply.given old.source + old.room + 1
  pub within : IsErrOf result TooLong ⊎ (ends.supply.given source' ≤ ends.supply.given old.source + old.room)
  pub gave : (got : List ℕ) × Consumes (ends.supply.rest old.source) (ends.supply.rest source') got × (ends.supply.given source' ≡ ends.supply.given old.source + length got)
  pub past_limit : IsErrOf result TooLong → Ahead ends old (λ bytes. (left old < length bytes) × Grew rules place (ends.held output) (ends.held output') (ended_lines (left old) bytes))
  pub read_fault : IsErrOf result ReadFault → Rises (ends.supply.faults old.source) (ends.supply.faults source')
  pub before_a_read : IsErrOf result ReadFault
      → Ahead ends old (λ bytes. Grew rules place (ends.held output) (ends.held output') (ended_lines (length old.waiting + (ends.supply.given source' - ends.supply.given old.source)) bytes))
  pub reads : IsErrOf result ReadFault ⊎ (ends.supply.faults source' ≡ ends.supply.faults old.source)
  pub write_fault : IsErrOf result WriteFault → Rises (ends.sink_faults output) (ends.sink_faults output')
  pub writes : IsErrOf result WriteFault ⊎ (ends.sink_faults output' ≡ ends.sink_faults output)
  pub after_write_fault : IsErrOf result WriteFault → Ahead ends old (GrewSome rules place (ends.held output) (ends.held output') (left old))
  pub after_no_memory : IsErrOf result NoMemory → Ahead ends old (λ bytes. GrewLines rules place (ends.held output) (ends.held output') (reached_lines (left old) bytes))
  pub more : IsErrOf result ReadFault ⊎ IsErrOf result TooLong → ¬ IsOpen old.line
