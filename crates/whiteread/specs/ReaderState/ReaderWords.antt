-- The words that a reader has left, and what a call of its `next` does.
use Rattle.std.specs.Prelude.{◌≡◌, ℕ, ◌+◌, ◌-◌, List, [], ◌∷◌, ◌++◌, length, take, drop, nat_le, if◌then◌else◌, true, false, Option, Some, None, Ok, Err}
use Rattle.std.specs.Option.{option_map}
use Rattle.std.specs.Str.{is_utf8}
use Rattle.std.specs.Io.KnownBytes.{IsAtEnd}
use Rattle.edge_io.specs.Supply.{Supply}
use Rattle.whiteread.specs.Words.{Words, words}
use Rattle.whiteread.specs.Lines.{lines_of, up_to_last_feed}
use Rattle.whiteread.specs.Words.Found.{FindsWord}
use Rattle.whiteread.specs.Stream.{Stream, Answer}
use Rattle.whiteread.specs.ReaderState.{reader_source, reader_limit, reader_taken, reader_past, reader_waiting, reader_line, reader_passed, reader_faults, StaysInLine}
use Rattle.whiteread.specs.LineCall.{LineCall}
use Rattle.whiteread.specs.declared.reader.Reader.{Reader}

-- The words of the lines before the first that isn't UTF-8.
abbrev pub words_of_lines : List (List ℕ) → Words
words_of_lines [] = []
words_of_lines (line ∷ lines) = if is_utf8 line then words line ++ words_of_lines lines else []

-- The bytes of the lines that are whole, where so many more bytes may be taken.
abbrev pub whole_within : ℕ → List ℕ → List ℕ → List ℕ
whole_within room waiting rest = if nat_le (length rest) room then waiting ++ rest else up_to_last_feed (waiting ++ take room rest)

-- The words of the lines after the current one, up to the first that isn't UTF-8 or isn't whole within the limit.
abbrev pub words_ahead : {B : Type 0} → Reader B → List ℕ → Words
words_ahead r rest = if reader_past r then [] else words_of_lines (lines_of (whole_within (reader_limit r - reader_taken r) (reader_waiting r) rest))

-- The words left in the current line.
abbrev pub words_in_line : {B : Type 0} → Reader B → Words
words_in_line r = words (drop (reader_passed r) (reader_line r))

-- The words left, where the source tells its bytes.
abbrev pub reader_left : {B : Type 0} → Supply B → Reader B → Option Words
reader_left supply r = option_map (λ bytes. words_in_line r ++ words_ahead r bytes) (supply.rest (reader_source r))

-- A number that the words left never pass: the bytes that are not passed and those that may still be taken.
abbrev pub reader_bound : {B : Type 0} → Reader B → ℕ
reader_bound r = (length (reader_line r) - reader_passed r) + length (reader_waiting r) + (reader_limit r - reader_taken r)

-- No word is left in the line, no byte waits, and the source is at its end.
pub record IsAtLast {B : Type 0} (supply : Supply B) (r : Reader B) : Type 0 where
  pub line : words_in_line r ≡ []
  pub waiting : reader_waiting r ≡ []
  pub end : IsAtEnd (supply.rest (reader_source r))

-- Lines were read one after another, each where no word was left in the one before it, and these were the states on the way.
abbrev pub PassesLines : {B : Type 0} → Supply B → Reader B → List (Reader B) → Reader B → Type 0
PassesLines supply old [] last = last ≡ old
PassesLines supply old (next ∷ more) last = (words_in_line old ≡ []) × LineCall supply old (Ok true) next × PassesLines supply next more last

-- How a call of `next` ends: with the first word of the line, or, where none is left in it, as the reading of a line ends.
abbrev pub EndsStep : {B : Type 0} → Supply B → Reader B → Answer → Reader B → Type 0
EndsStep supply last (Ok (Some word)) new = FindsWord (reader_line last) (reader_passed last) word (reader_passed new) × StaysInLine last new
EndsStep supply last (Ok None) new = (words_in_line last ≡ []) × LineCall supply last (Ok false) new
EndsStep supply last (Err why) new = (words_in_line last ≡ []) × LineCall supply last (Err why) new

-- A call of `next` reads lines until one has a word, and passes that word.
pub record ReaderStep {B : Type 0} (supply : Supply B) (old : Reader B) (answer : Answer) (new : Reader B) : Type 0 where
  pub states : List (Reader B)
  pub last : Reader B
  pub passes : PassesLines supply old states last
  pub ends : EndsStep supply last answer new

-- What a reader means as a stream of words.
abbrev pub reader_stream : {B : Type 0} → Supply B → Stream (Reader B)
reader_stream supply = record {
  left = reader_left supply;
  bound = reader_bound;
  at_end = IsAtLast supply;
  step = ReaderStep supply;
  faults = reader_faults supply;
  allocates = true;
}
