-- What the steps of the reading of a line do to a reader.
use Rattle.std.specs.Prelude.{◌≡◌, ◌≤◌, ◌<◌, ℕ, ◌+◌, length, take, drop, IsUtf8, Bool, true, false, Option, Some, None, Result, Ok, Err, ◌⊎◌}
use Rattle.std.specs.Io.KnownBytes.{IsAtEnd}
use Rattle.edge_io.specs.Supply.{Supply}
use Rattle.whiteread.specs.Lines.{HasNoFeed, IsFirstLine}
use Rattle.whiteread.specs.Stream.{CountsNext}
use Rattle.whiteread.specs.ReaderState.{reader_source, reader_limit, reader_taken, reader_past, reader_waiting, reader_line, reader_passed, reader_row, reader_faults}
use Rattle.whiteread.specs.LineCall.{Waits, MeetsEnd, PassesLimit, HasNoLine, next_row}
use Rattle.whiteread.specs.declared.reader.Reader.{Reader}
use Rattle.whiteread.specs.declared.stream.error.Error.{Error}
use Rattle.whiteread.specs.declared.stream.error.Error.TheVariants.{TooShort, Leftovers, ParseError, IoError, NoMemory}
use Rattle.whiteread.specs.declared.stream.error.IoFault.TheVariants.{ReadFault, NotUtf8, TooLong, CannotOpen}

-- The current line, its place and the limit stay, and the source is behind the same reference.
pub record KeepsLine {B : Type 0} (supply : Supply B) (old new : Reader B) : Type 0 where
  pub line : reader_line new ≡ reader_line old
  pub passed : reader_passed new ≡ reader_passed old
  pub row : reader_row new ≡ reader_row old
  pub limit : reader_limit new ≡ reader_limit old
  pub same_reference : supply.reference (reader_source new) ≡ supply.reference (reader_source old)

-- What stands where no whole line could be had.
abbrev pub AwaitRefusal : {B : Type 0} → Supply B → Reader B → Error → Reader B → Type 0
AwaitRefusal supply old (TooShort progress) new = ⊥
AwaitRefusal supply old Leftovers new = ⊥
AwaitRefusal supply old ParseError new = ⊥
AwaitRefusal supply old (IoError ReadFault) new = Waits supply old new × HasNoFeed (reader_waiting new) × (reader_past old ≡ false)
AwaitRefusal supply old (IoError NotUtf8) new = ⊥
AwaitRefusal supply old (IoError TooLong) new = PassesLimit supply old new
AwaitRefusal supply old (IoError CannotOpen) new = ⊥
AwaitRefusal supply old NoMemory new = Waits supply old new

-- A read gave bytes where it answers true, at most 4096, and met the end where it answers false.
abbrev pub PieceOutcome : {B : Type 0} → Supply B → Reader B → Result Bool Error → Reader B → Type 0
PieceOutcome supply old (Ok true) new = Waits supply old new × (length (reader_waiting new) ≤ length (reader_waiting old) + 4096) × (reader_taken old < reader_taken new) × (reader_past old ≡ false)
PieceOutcome supply old (Ok false) new = Waits supply old new × (reader_waiting new ≡ reader_waiting old) × IsAtEnd (supply.rest (reader_source new)) × (reader_past old ≡ false)
PieceOutcome supply old (Err why) new = AwaitRefusal supply old why new

-- The first line stands in front of the bytes that wait. Where some came, less than a read waits after it.
pub record HasFirstLine {B : Type 0} (supply : Supply B) (old new : Reader B) (len : ℕ) : Type 0 where
  pub within : len ≤ length (reader_waiting new)
  pub first : IsFirstLine (take len (reader_waiting new)) (drop len (reader_waiting new))
  pub unended : HasNoFeed (take len (reader_waiting new)) → IsAtEnd (supply.rest (reader_source new))
  pub few : length (reader_waiting old) < length (reader_waiting new) → length (drop len (reader_waiting new)) ≤ 4095

-- A line waits, of which the length is answered, or the end was met.
abbrev pub AwaitOutcome : {B : Type 0} → Supply B → Reader B → Result (Option ℕ) Error → Reader B → Type 0
AwaitOutcome supply old (Ok (Some len)) new = Waits supply old new × HasFirstLine supply old new len × (reader_past old ≡ false)
AwaitOutcome supply old (Ok None) new = MeetsEnd supply old new
AwaitOutcome supply old (Err why) new = AwaitRefusal supply old why new

-- What each step says besides.
pub record StepCall {B T : Type 0} (supply : Supply B) (old : Reader B) (answer : Result T Error) (new : Reader B) : Type 0 where
  pub counts : CountsNext (reader_faults supply old) answer (reader_faults supply new)
  pub stays_past : reader_past old ≡ true → reader_past new ≡ true
  pub kept : KeepsLine supply old new

-- What the reading of a piece does, where no whole line waits.
pub record PieceCall {B : Type 0} (supply : Supply B) (old : Reader B) (answer : Result Bool Error) (new : Reader B) : Type 0 where
  pub outcome : PieceOutcome supply old answer new
  pub step : StepCall supply old answer new
  pub lazy : reader_past old ≡ true → reader_source new ≡ reader_source old

-- What waiting for a line does.
pub record AwaitCall {B : Type 0} (supply : Supply B) (old : Reader B) (answer : Result (Option ℕ) Error) (new : Reader B) : Type 0 where
  pub outcome : AwaitOutcome supply old answer new
  pub step : StepCall supply old answer new
  pub lazy : (¬ HasNoFeed (reader_waiting old)) ⊎ (reader_past old ≡ true) → reader_source new ≡ reader_source old

-- The first bytes that wait became the current line, or were passed since they are no text.
abbrev pub TakeOutcome : {B T : Type 0} → ℕ → Reader B → Result T Error → Reader B → Type 0
TakeOutcome len old (Ok done) new = (reader_waiting new ≡ drop len (reader_waiting old)) × (reader_line new ≡ take len (reader_waiting old)) × IsUtf8 (take len (reader_waiting old)) × (reader_row new ≡ next_row (reader_row old))
TakeOutcome len old (Err why) new = (why ≡ IoError NotUtf8) × (reader_waiting new ≡ drop len (reader_waiting old)) × (¬ IsUtf8 (take len (reader_waiting old))) × HasNoLine (next_row (reader_row old)) new

-- What the taking of a line from the bytes that wait does.
pub record TakeCall {B T : Type 0} (supply : Supply B) (len : ℕ) (old : Reader B) (answer : Result T Error) (new : Reader B) : Type 0 where
  pub outcome : TakeOutcome len old answer new
  pub counts : CountsNext (reader_faults supply old) answer (reader_faults supply new)
  pub source : reader_source new ≡ reader_source old
  pub limit : reader_limit new ≡ reader_limit old
  pub taken : reader_taken new ≡ reader_taken old
  pub past : reader_past new ≡ reader_past old
  pub passed : reader_passed new ≡ reader_passed old
