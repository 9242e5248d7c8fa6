-- Values that are read over good input: UTF-8 within the limit, from a source that doesn't fail.
use Rattle.std.specs.Prelude.{◌≡◌, ◌≢◌, ◌≤◌, ◌<◌, ◌-◌, ◌++◌, ℕ, Bool, List, length, false, Option, Some, Result, Err, IsUtf8}
use Rattle.std.specs.List.{All}
use Rattle.edge_io.specs.Ends.{last_count}
use Rattle.edge_io.specs.Supply.{Supply}
use Rattle.whiteread.specs.Words.{Words}
use Rattle.whiteread.specs.Lines.{lines_of}
use Rattle.whiteread.specs.Reading.{Reading, ReadCall}
use Rattle.whiteread.specs.Located.{Located, inner_answer}
use Rattle.whiteread.specs.ReaderState.{reader_source, reader_limit, reader_taken, reader_past, reader_waiting, reader_faults}
use Rattle.whiteread.specs.ReaderState.ReaderWords.{reader_left, reader_stream}
use Rattle.whiteread.specs.ReaderState.ReaderCalls.{TellsCall}
use Rattle.reader_laws.specs.Alike.{Likeness, AnswersAlike}
use Rattle.whiteread.specs.declared.reader.Reader.{Reader}
use Rattle.whiteread.specs.declared.stream.error.Error.{Error}
use Rattle.whiteread.specs.declared.stream.error.Error.TheVariants.{IoError, NoMemory}
use Rattle.whiteread.specs.declared.stream.error.IoFault.{IoFault}

-- The source tells the bytes that it has left, they fit within the limit, and each line ahead is UTF-8.
pub record IsGood {B : Type 0} (supply : Supply B) (r : Reader B) : Type 0 where
  pub bytes : List ℕ
  pub told : supply.rest (reader_source r) ≡ Some bytes
  pub within : length bytes ≤ reader_limit r - reader_taken r
  pub not_past : reader_past r ≡ false
  pub utf8 : All IsUtf8 (lines_of (reader_waiting r ++ bytes))

-- Over good input `continue_` of a reader with these words left told this answer, and the source didn't fail on the way.
pub record ContinuesGood {B T : Type 0} (supply : Supply B) (reading : Reading T) (cheap : Bool) (words : Words) (result : Result T Located) : Type 0 where
  pub old : Reader B
  pub new : Reader B
  pub good : IsGood supply old
  pub left : reader_left supply old ≡ Some words
  pub told : TellsCall (ReadCall (reader_stream supply) reading) cheap old result new
  pub held : supply.faults (reader_source new) ≡ supply.faults (reader_source old)
  -- no counter of faults stands at its last value
  pub counting : (fault : IoFault) → reader_faults supply old fault < last_count

-- No words are answered by IoError.
abbrev pub MeetsNoFault : {T : Type 0} → (Words → Result T Located → Type 0) → Type 0
MeetsNoFault {T} answers = (words : Words) (result : Result T Located) (fault : IoFault) → answers words result → inner_answer result ≢ Err (IoError fault)

-- The same words get answers that are alike both ways, but for the places of errors, where neither way wants memory.
abbrev pub AgreeAlike : {T : Type 0} → Likeness T → (Words → Result T Located → Type 0) → (Words → Result T Located → Type 0) → Type 0
AgreeAlike {T} alike first second = (words : Words) (one other : Result T Located) → first words one → second words other
    → inner_answer one ≢ Err NoMemory → inner_answer other ≢ Err NoMemory → AnswersAlike alike (inner_answer one) (inner_answer other)
