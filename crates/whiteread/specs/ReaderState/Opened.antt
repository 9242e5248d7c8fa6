-- New readers, and calls that read a whole input or one line of it.
use Rattle.std.specs.Prelude.{◌≡◌, ◌⊎◌, ℕ, Bool, false, [], Result, Err}
use Rattle.edge_io.specs.Supply.{Supply}
use Rattle.whiteread.specs.Reading.{Reading}
use Rattle.whiteread.specs.Reading.Whole.{WholeCall}
use Rattle.whiteread.specs.Located.{Located, unplaced}
use Rattle.whiteread.specs.Lines.OneLine.{ReadsOneLine}
use Rattle.whiteread.specs.ReaderState.{reader_source, reader_limit, reader_taken, reader_past, reader_waiting, reader_line, reader_passed, reader_row, reader_faults, fault_counts}
use Rattle.whiteread.specs.ReaderState.ReaderWords.{reader_stream}
use Rattle.whiteread.specs.ReaderState.ReaderCalls.{TellsCall}
use Rattle.whiteread.specs.declared.reader.Reader.{Reader}
use Rattle.whiteread.specs.declared.stream.error.Error.TheVariants.{IoError, NoMemory}
use Rattle.whiteread.specs.declared.stream.error.IoFault.TheVariants.{CannotOpen}

-- A reader over a source that has given nothing and met no fault has taken nothing, has no line yet, and takes at most so many bytes.
pub record IsNew {B : Type 0} (supply : Supply B) (limit : ℕ) (r : Reader B) : Type 0 where
  pub given : supply.given (reader_source r) ≡ 0
  pub faults : reader_faults supply r ≡ fault_counts 0 0 0
  pub limit_is : reader_limit r ≡ limit
  pub taken : reader_taken r ≡ 0
  pub past : reader_past r ≡ false
  pub waiting : reader_waiting r ≡ []
  pub line : reader_line r ≡ []
  pub passed : reader_passed r ≡ 0
  pub row : reader_row r ≡ 0

-- A file that can't be opened is told without a place, or memory is wanting.
abbrev pub IsNotOpened : Located → Type 0
IsNotOpened error = (error ≡ unplaced (IoError CannotOpen)) ⊎ (error ≡ unplaced NoMemory)

-- A value is read from all words of a new reader.
pub record FinishesNew {B T : Type 0} (supply : Supply B) (reading : Reading T) (limit : ℕ) (cheap : Bool) (result : Result T Located) : Type 0 where
  pub old : Reader B
  pub new : Reader B
  pub begins : IsNew supply limit old
  pub told : TellsCall (WholeCall (reader_stream supply) reading) cheap old result new

-- A file isn't opened, or a value is read from all words of a new reader over it.
abbrev pub OpensAndFinishes : {B T : Type 0} → Supply B → Reading T → ℕ → Bool → Result T Located → Type 0
OpensAndFinishes supply reading limit cheap result =
    ((error : Located) × (result ≡ Err error) × IsNotOpened error) ⊎ FinishesNew supply reading limit cheap result

-- A value is read from one line of a source that has given nothing and met no fault yet.
pub record ReadsNewLine {B T : Type 0} (supply : Supply B) (reading : Reading T) (row : ℕ) (cheap : Bool) (result : Result T Located) : Type 0 where
  pub old : B
  pub new : B
  pub given : supply.given old ≡ 0
  pub faults : supply.faults old ≡ 0
  pub reads : ReadsOneLine supply reading row cheap old result new
