-- What the calls of a reader that read values do.
use Rattle.std.specs.Prelude.{◌≡◌, ℕ, List, Bool, true, false, Result, Ok, Err, IfOk}
use denote.Ref.{Bor}
use Rattle.edge_io.specs.Supply.{Supply}
use Rattle.whiteread.specs.Reading.{ReadCall}
use Rattle.whiteread.specs.Reading.Reads.{nothing}
use Rattle.whiteread.specs.Words.Split.{split_text, split_position, split_stream}
use Rattle.whiteread.specs.Located.{Located, IsTold}
use Rattle.whiteread.specs.LineCall.{LineCall}
use Rattle.whiteread.specs.ReaderState.{reader_line, reader_passed, reader_row, StaysInLine}
use Rattle.whiteread.specs.declared.reader.Reader.{Reader}
use Rattle.whiteread.specs.declared.stream.split.SplitAsciiWhitespace.{SplitAsciiWhitespace}
use Rattle.whiteread.specs.declared.stream.error.Error.{Error}
use Rattle.whiteread.specs.declared.stream.error.Error.TheVariants.{TooShort}
use Rattle.whiteread.specs.declared.stream.error.Progress.TheVariants.{Nothing}

-- A call over the words of a reader, whose answer is told, an error with its place in the reader as the call left it.
pub record TellsCall {B T : Type 0} (call : Reader B → Result T Error → Reader B → Type 0) (cheap : Bool) (old : Reader B) (result : Result T Located) (new : Reader B) : Type 0 where
  pub answer : Result T Error
  pub called : call old answer new
  pub told : IsTold cheap answer (reader_row new) (reader_passed new) (reader_line new) result

-- A call over the words left in the current line, as a split text of the line has them from the passed bytes on.
pub record InLine {B T : Type 0} (call : SplitAsciiWhitespace → Result T Error → SplitAsciiWhitespace → Type 0) (old : Reader B) (answer : Result T Error) (new : Reader B) : Type 0 where
  pub before : SplitAsciiWhitespace
  pub after : SplitAsciiWhitespace
  pub text : split_text before ≡ reader_line old
  pub from : split_position before ≡ reader_passed old
  pub called : call before answer after
  pub same_text : split_text after ≡ reader_line old
  pub passed : reader_passed new ≡ split_position after
  pub stays : StaysInLine old new

-- What follows the reading of a line: a call over its words, TooShort at the end of the input, or the fault.
abbrev pub AfterLine : {B T : Type 0} → (Reader B → Result T Error → Reader B → Type 0) → Result Bool Error → Reader B → Result T Error → Reader B → Type 0
AfterLine call (Ok true) mid answer new = call mid answer new
AfterLine call (Ok false) mid answer new = (answer ≡ Err (TooShort Nothing)) × (new ≡ mid)
AfterLine call (Err why) mid answer new = (answer ≡ Err why) × (new ≡ mid)

-- A new line is read, and then a call is made over its words.
pub record OverNewLine {B T : Type 0} (line_call : Reader B → Result Bool Error → Reader B → Type 0) (call : Reader B → Result T Error → Reader B → Type 0) (old : Reader B) (answer : Result T Error) (new : Reader B) : Type 0 where
  pub found : Result Bool Error
  pub mid : Reader B
  pub line : line_call old found mid
  pub then : AfterLine call found mid answer new

-- A line that is lent counts as the empty tuple, and an error stays as it is.
abbrev pub as_nothing : {A : Type 0} → Result A Located → Result (Unit {0}) Located
as_nothing (Ok line) = Ok tt
as_nothing (Err error) = Err error

-- A new line is read, and nothing of its words, and the line is lent.
pub record LendsLine {B : Type 0} (supply : Supply B) (old : Reader B) (result : Result (Bor (List ℕ)) Located) (new : Reader B) : Type 0 where
  pub told : TellsCall (OverNewLine (LineCall supply) (InLine (ReadCall split_stream nothing))) false old (as_nothing result) new
  pub lent : IfOk result (λ line. line.now ≡ reader_line new)

-- A new line is read and lent, and the reader stays in it for as long as it is lent.
abbrev pub LendsNext : {B : Type 0} → Supply B → Reader B → Result (Bor (List ℕ)) Located → Type 0
LendsNext {B} supply old result = (new : Reader B) × LendsLine supply old result new
