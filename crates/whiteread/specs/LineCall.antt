-- What the reading of a line does to a reader.
use Rattle.std.specs.Prelude.{◌≡◌, ◌≤◌, ◌<◌, ◌⊎◌, ℕ, ◌+◌, List, [], ◌++◌, length, min, Bool, true, false, Result, Ok, Err, IsUtf8}
use Rattle.std.specs.Io.KnownBytes.{IsAtEnd}
use Rattle.edge_io.specs.Supply.{Supply, Gave}
use Rattle.whiteread.specs.Lines.{HasNoFeed, IsFirstLine}
use Rattle.whiteread.specs.Stream.{CountsNext}
use Rattle.whiteread.specs.ReaderState.{reader_source, reader_limit, reader_taken, reader_past, reader_waiting, reader_line, reader_passed, reader_row, reader_faults}
use Rattle.whiteread.specs.declared.reader.Reader.{Reader}
use Rattle.whiteread.specs.declared.stream.error.Error.{Error}
use Rattle.whiteread.specs.declared.stream.error.Error.TheVariants.{TooShort, Leftovers, ParseError, IoError, NoMemory}
use Rattle.whiteread.specs.declared.stream.error.IoFault.TheVariants.{ReadFault, NotUtf8, TooLong, CannotOpen}

-- The row after this one; it stops at the greatest u64.
abbrev pub next_row : ℕ → ℕ
next_row row = min (row + 1) 18446744073709551615

-- What the source gave waits, and no line was taken.
pub record Waits {B : Type 0} (supply : Supply B) (old new : Reader B) : Type 0 where
  pub got : List ℕ
  pub gave : Gave supply (reader_source old) (reader_source new) got
  pub taken : reader_taken new ≡ reader_taken old + length got
  pub waits : reader_waiting new ≡ reader_waiting old ++ got
  pub past : reader_past new ≡ reader_past old

-- The first line of what waited and what the source gave was taken. Where the source gave some, less than a read waits after it.
pub record TakesLine {B : Type 0} (supply : Supply B) (old new : Reader B) (line : List ℕ) : Type 0 where
  pub got : List ℕ
  pub gave : Gave supply (reader_source old) (reader_source new) got
  pub taken : reader_taken new ≡ reader_taken old + length got
  pub cut : reader_waiting old ++ got ≡ line ++ reader_waiting new
  pub first : IsFirstLine line (reader_waiting new)
  pub unended : HasNoFeed line → IsAtEnd (supply.rest (reader_source new))
  pub few : 0 < length got → length (reader_waiting new) ≤ 4095
  pub past : reader_past new ≡ false

-- No byte is left: none waits, and the source is at its end.
pub record MeetsEnd {B : Type 0} (supply : Supply B) (old new : Reader B) : Type 0 where
  pub gave : Gave supply (reader_source old) (reader_source new) []
  pub taken : reader_taken new ≡ reader_taken old
  pub none_waited : reader_waiting old ≡ []
  pub none_waits : reader_waiting new ≡ []
  pub end : IsAtEnd (supply.rest (reader_source new))
  pub past : reader_past new ≡ false

-- How many bytes a probe has to give: one, where none gave one before.
abbrev pub probe_len : Bool → ℕ
probe_len false = 1
probe_len true = 0

-- The limit was taken, no whole line is in it any more, and a probe gave a byte, in this call or in an earlier one.
pub record PassesLimit {B : Type 0} (supply : Supply B) (old new : Reader B) : Type 0 where
  pub got : List ℕ
  pub probe : List ℕ
  pub gave : Gave supply (reader_source old) (reader_source new) (got ++ probe)
  pub taken : reader_taken new ≡ reader_taken old + length got
  pub full : reader_taken new ≡ reader_limit new
  pub probed : length probe ≡ probe_len (reader_past old)
  pub waits : reader_waiting new ≡ reader_waiting old ++ got
  pub no_line : HasNoFeed (reader_waiting new)
  pub past : reader_past new ≡ true

-- The row is this one, and there is no current line.
pub record HasNoLine {B : Type 0} (number : ℕ) (new : Reader B) : Type 0 where
  pub row : reader_row new ≡ number
  pub line : reader_line new ≡ []

-- What stands after each answer: true after a line, false at the end of the input.
abbrev pub LineOutcome : {B : Type 0} → Supply B → Reader B → Result Bool Error → Reader B → Type 0
LineOutcome supply old (Ok true) new = TakesLine supply old new (reader_line new) × IsUtf8 (reader_line new) × (reader_row new ≡ next_row (reader_row old))
LineOutcome supply old (Ok false) new = MeetsEnd supply old new × HasNoLine (next_row (reader_row old)) new
LineOutcome supply old (Err (TooShort progress)) new = ⊥
LineOutcome supply old (Err Leftovers) new = ⊥
LineOutcome supply old (Err ParseError) new = ⊥
LineOutcome supply old (Err (IoError ReadFault)) new = Waits supply old new × HasNoFeed (reader_waiting new) × (reader_past old ≡ false) × HasNoLine (reader_row old) new
LineOutcome supply old (Err (IoError NotUtf8)) new = ((line : List ℕ) × TakesLine supply old new line × (¬ IsUtf8 line)) × HasNoLine (next_row (reader_row old)) new
LineOutcome supply old (Err (IoError TooLong)) new = PassesLimit supply old new × HasNoLine (reader_row old) new
LineOutcome supply old (Err (IoError CannotOpen)) new = ⊥
LineOutcome supply old (Err NoMemory) new = Waits supply old new × HasNoLine (reader_row old) new

-- What the reading of a line does.
pub record LineCall {B : Type 0} (supply : Supply B) (old : Reader B) (answer : Result Bool Error) (new : Reader B) : Type 0 where
  -- what stands after each answer
  pub outcome : LineOutcome supply old answer new
  -- nothing of the current line is passed
  pub passed : reader_passed new ≡ 0
  -- the count of the fault that is answered rose, and no other
  pub counts : CountsNext (reader_faults supply old) answer (reader_faults supply new)
  -- no read is made while a whole line waits, nor past the limit
  pub lazy : (¬ HasNoFeed (reader_waiting old)) ⊎ (reader_past old ≡ true) → reader_source new ≡ reader_source old
  -- past the limit it stays past it
  pub stays_past : reader_past old ≡ true → reader_past new ≡ true
  -- the limit stays
  pub limit : reader_limit new ≡ reader_limit old
  -- the source is still behind the same reference, if it is behind one
  pub same_reference : supply.reference (reader_source new) ≡ supply.reference (reader_source old)
