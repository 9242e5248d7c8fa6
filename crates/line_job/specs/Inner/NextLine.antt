-- What the reading of a line leaves, as a run sees it.
use Rattle.std.specs.Prelude.{◌≡◌, ◌<◌, ◌≤◌, ◌+◌, ◌-◌, ℕ, List, [], length, Bool, true, false, Result, Ok, Err, IsUtf8}
use Rattle.std.specs.Io.KnownBytes.{IsAtEnd}
use Rattle.edge_io.specs.Ends.{Rises}
use Rattle.edge_io.specs.Supply.{Supply, Gave}
use Rattle.whiteread.specs.Lines.{without_feed, HasNoFeed}
use Rattle.whiteread.specs.LineCall.{TakesLine, Waits, PassesLimit}
use Rattle.whiteread.specs.ReaderState.{reader_source, reader_limit, reader_taken, reader_past, reader_waiting, reader_line}
use Rattle.whiteread.specs.declared.reader.Reader.{Reader}
use Rattle.whiteread.specs.declared.stream.error.Error.{Error}
use Rattle.whiteread.specs.declared.stream.error.Error.TheVariants.{TooShort, Leftovers, ParseError, IoError, NoMemory as ErrorNoMemory}
use Rattle.whiteread.specs.declared.stream.error.IoFault.TheVariants.{ReadFault as FaultRead, NotUtf8 as FaultUtf8, TooLong as FaultLong, CannotOpen}
use Rattle.line_job.specs.declared.reading.LineFault.{LineFault}
use Rattle.line_job.specs.declared.reading.LineFault.TheVariants.{ReadFault, NotUtf8, TooLong, NoMemory}

-- there is a line, and no line feed ends it
abbrev pub IsOpen : List ℕ → Type 0
IsOpen line = (0 < length line) × (length (without_feed line) ≡ length line)

-- the limit was not passed, nothing comes after a line that no line feed ends, so many lines were taken, and less than a read waits
pub record IsReady {B : Type 0} (supply : Supply B) (before : ℕ) (reader : Reader B) : Type 0 where
  pub past : reader_past reader ≡ false
  pub last : IsOpen (reader_line reader) → (reader_waiting reader ≡ []) × IsAtEnd (supply.rest (reader_source reader))
  pub counted : before + length (reader_waiting reader) ≤ supply.given (reader_source reader)
  pub few : length (reader_waiting reader) ≤ 4095

-- a line was taken
pub record Took {B : Type 0} (supply : Supply B) (before : ℕ) (old new : Reader B) (line : List ℕ) : Type 0 where
  pub takes : TakesLine supply old new line
  pub more : ¬ IsOpen (reader_line old)
  pub still : supply.faults (reader_source new) ≡ supply.faults (reader_source old)
  pub limit : reader_limit new ≡ reader_limit old
  pub ready : IsReady supply (before + 1) new

-- no line is left
pub record Ended {B : Type 0} (supply : Supply B) (old new : Reader B) : Type 0 where
  pub gave : Gave supply (reader_source old) (reader_source new) []
  pub none : reader_waiting old ≡ []
  pub end : IsAtEnd (supply.rest (reader_source new))
  pub still : supply.faults (reader_source new) ≡ supply.faults (reader_source old)

-- a read failed
pub record Failed {B : Type 0} (supply : Supply B) (old new : Reader B) : Type 0 where
  pub waits : Waits supply old new
  pub no_feed : HasNoFeed (reader_waiting new)
  pub more : ¬ IsOpen (reader_line old)
  pub rose : Rises (supply.faults (reader_source old)) (supply.faults (reader_source new))
  pub limit : reader_limit new ≡ reader_limit old

-- the limit was passed
pub record Passed {B : Type 0} (supply : Supply B) (old new : Reader B) : Type 0 where
  pub passes : PassesLimit supply old new
  pub unprobed : reader_past old ≡ false
  pub more : ¬ IsOpen (reader_line old)
  pub still : supply.faults (reader_source new) ≡ supply.faults (reader_source old)
  pub limit : reader_limit new ≡ reader_limit old

-- how many more bytes the reader may take
abbrev pub left_to_take : {B : Type 0} → Reader B → ℕ
left_to_take reader = reader_limit reader - reader_taken reader

-- the source gave within the limit, and no read failed
pub record Quiet {B : Type 0} (supply : Supply B) (old new : Reader B) : Type 0 where
  pub got : List ℕ
  pub gave : Gave supply (reader_source old) (reader_source new) got
  pub within : supply.given (reader_source new) ≤ supply.given (reader_source old) + left_to_take old
  pub still : supply.faults (reader_source new) ≡ supply.faults (reader_source old)

-- the fault that a reader's error is told as, where a line of this number was wanted
abbrev pub IsToldAs : Error → ℕ → LineFault → Type 0
IsToldAs (TooShort progress) number fault = fault ≡ NoMemory
IsToldAs Leftovers number fault = fault ≡ NoMemory
IsToldAs ParseError number fault = fault ≡ NoMemory
IsToldAs (IoError FaultRead) number fault = fault ≡ ReadFault
IsToldAs (IoError FaultUtf8) number fault = fault ≡ NotUtf8 number
IsToldAs (IoError FaultLong) number fault = fault ≡ TooLong
IsToldAs (IoError CannotOpen) number fault = fault ≡ NoMemory
IsToldAs ErrorNoMemory number fault = fault ≡ NoMemory

-- what stands after each answer of the reading of a line
abbrev pub NextLine : {B : Type 0} → Supply B → ℕ → Reader B → Result Bool LineFault → Reader B → Type 0
NextLine supply before old (Ok true) new = Took supply before old new (reader_line new)
NextLine supply before old (Ok false) new = Ended supply old new
NextLine supply before old (Err ReadFault) new = Failed supply old new
NextLine supply before old (Err TooLong) new = Passed supply old new
NextLine supply before old (Err (NotUtf8 number)) new = (line : List ℕ) × Took supply before old new line × (¬ IsUtf8 line) × (number ≡ before + 1)
NextLine supply before old (Err NoMemory) new = Quiet supply old new
