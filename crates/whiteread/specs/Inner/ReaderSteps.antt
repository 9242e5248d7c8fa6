-- What the looks of a reader for a word in its line do.
use Rattle.std.specs.Prelude.{◌≡◌, ◌≤◌, ◌<◌, ℕ, List, [], length, slice_range, Option, Some, None, Result, Ok, Err, IsCharBoundary, ⊤}
use Rattle.whiteread.specs.Words.Found.{FindsWord}
use Rattle.whiteread.specs.Stream.{Answer}
use Rattle.whiteread.specs.ReaderState.{reader_line, reader_passed, StaysInLine}
use Rattle.whiteread.specs.ReaderState.ReaderWords.{words_in_line}
use Rattle.whiteread.specs.declared.reader.Reader.{Reader}
use Rattle.whiteread.specs.declared.stream.error.Error.{Error}

-- The word that begins at this place ends where the passed bytes of the line end.
abbrev pub word_from : {B : Type 0} → ℕ → Reader B → List ℕ
word_from start r = slice_range (reader_line r) start (reader_passed r)

-- The next word of the line begins at this place and is passed, or the line has none left and nothing changes.
abbrev pub LooksInLine : {B : Type 0} → Reader B → Option ℕ → Reader B → Type 0
LooksInLine old None new = (words_in_line old ≡ []) × (new ≡ old)
LooksInLine old (Some start) new = FindsWord (reader_line old) (reader_passed old) (word_from start new) (reader_passed new) × StaysInLine old new
    × (start < reader_passed new) × (reader_passed new ≤ length (reader_line new)) × IsCharBoundary (reader_line new) start

-- An answer with the place where the word begins is an answer with the word.
abbrev pub word_answer : {B : Type 0} → Result (Option ℕ) Error → Reader B → Answer
word_answer (Ok None) new = Ok None
word_answer (Ok (Some start)) new = Ok (Some (word_from start new))
word_answer (Err why) new = Err why

-- A word that is found begins at a character, within the passed bytes.
abbrev pub BeginsIn : {B : Type 0} → Result (Option ℕ) Error → Reader B → Type 0
BeginsIn (Ok None) new = ⊤
BeginsIn (Ok (Some start)) new = (start ≤ reader_passed new) × IsCharBoundary (reader_line new) start
BeginsIn (Err why) new = ⊤
