-- What taking one line of a source by itself does, and reading its words.
use Rattle.std.specs.Prelude.{◌≡◌, ◌≤◌, ◌⊎◌, ℕ, Bool, List, [], ◌∷◌, ◌++◌, length, Option, Some, None, Result, Ok, Err, IsUtf8, Vec}
use Rattle.std.specs.Global.{Global}
use Rattle.std.specs.Io.KnownBytes.{IsAtEnd}
use Rattle.edge_io.specs.Ends.{Rises}
use Rattle.edge_io.specs.Supply.{Supply, Gave}
use Rattle.whiteread.specs.Lines.{HasNoFeed, IsWhole}
use Rattle.whiteread.specs.Reading.{Reading}
use Rattle.whiteread.specs.Reading.Whole.{WholeCall}
use Rattle.whiteread.specs.Words.Split.{split_text, split_position, split_stream}
use Rattle.whiteread.specs.Located.{Located, IsTold, unplaced}
use Rattle.whiteread.specs.declared.stream.split.SplitAsciiWhitespace.{SplitAsciiWhitespace}
use Rattle.whiteread.specs.declared.stream.error.Error.{Error}
use Rattle.whiteread.specs.declared.stream.error.Error.TheVariants.{TooShort, Leftovers, ParseError, IoError, NoMemory}
use Rattle.whiteread.specs.declared.stream.error.IoFault.TheVariants.{ReadFault, NotUtf8, TooLong, CannotOpen}

-- A line that is taken by itself has at most so many bytes.
abbrev pub longest_line : ℕ
longest_line = 268435456

-- A source gave one byte, or none at its end, or failed.
abbrev pub GivesByte : {B : Type 0} → Supply B → B → Result (Option ℕ) Error → B → Type 0
GivesByte supply old (Ok (Some byte)) new = Gave supply old new (byte ∷ []) × (supply.faults new ≡ supply.faults old)
GivesByte supply old (Ok None) new = Gave supply old new [] × IsAtEnd (supply.rest new) × (supply.faults new ≡ supply.faults old)
GivesByte supply old (Err why) new = (why ≡ IoError ReadFault) × Gave supply old new [] × Rises (supply.faults old) (supply.faults new)

-- The line was taken and no byte after it: its line feed ends it, or the source is at its end.
pub record TakesOne {B : Type 0} (supply : Supply B) (old new : B) (line : List ℕ) : Type 0 where
  pub gave : Gave supply old new line
  pub ended : IsWhole line ⊎ (HasNoFeed line × IsAtEnd (supply.rest new))
  pub few : length line ≤ longest_line

-- As many bytes as the longest line has were given without a line feed, and one byte more.
pub record PassesLongest {B : Type 0} (supply : Supply B) (old new : B) : Type 0 where
  pub got : List ℕ
  pub last : ℕ
  pub gave : Gave supply old new (got ++ last ∷ [])
  pub no_feed : HasNoFeed got
  pub full : length got ≡ longest_line

-- The line's first bytes were given, or all of it with the line feed that ends it, and no byte after that.
pub record TakesFront {B : Type 0} (supply : Supply B) (old new : B) : Type 0 where
  pub got : List ℕ
  pub gave : Gave supply old new got
  pub of_one_line : HasNoFeed got ⊎ IsWhole got
  pub few : length got ≤ longest_line

-- No line was taken: a read failed, the line is too long, or memory is wanting; the bytes that were given are dropped.
abbrev pub LineRefused : {B : Type 0} → Supply B → B → Error → B → Type 0
LineRefused supply old (TooShort progress) new = ⊥
LineRefused supply old Leftovers new = ⊥
LineRefused supply old ParseError new = ⊥
LineRefused supply old (IoError ReadFault) new = ((got : List ℕ) × Gave supply old new got × HasNoFeed got × (length got ≤ longest_line)) × Rises (supply.faults old) (supply.faults new)
LineRefused supply old (IoError NotUtf8) new = ⊥
LineRefused supply old (IoError TooLong) new = PassesLongest supply old new × (supply.faults new ≡ supply.faults old)
LineRefused supply old (IoError CannotOpen) new = ⊥
LineRefused supply old NoMemory new = TakesFront supply old new × (supply.faults new ≡ supply.faults old)

-- One line is taken, or refused.
abbrev pub TakesOneLine : {B : Type 0} → Supply B → B → Result (Vec ℕ Global) Error → B → Type 0
TakesOneLine supply old (Ok line) new = TakesOne supply old new line.items × (supply.faults new ≡ supply.faults old)
TakesOneLine supply old (Err why) new = LineRefused supply old why new

-- A value is read from all words of a line.
pub record ReadsText {T : Type 0} (reading : Reading T) (row : ℕ) (cheap : Bool) (line : List ℕ) (result : Result T Located) : Type 0 where
  pub before : SplitAsciiWhitespace
  pub after : SplitAsciiWhitespace
  pub answer : Result T Error
  pub text : split_text before ≡ line
  pub start : split_position before ≡ 0
  pub called : WholeCall split_stream reading before answer after
  pub told : IsTold cheap answer row (split_position after) line result

-- A line that is UTF-8 is read, and another one is refused.
abbrev pub LineRead : {T : Type 0} → Reading T → ℕ → Bool → List ℕ → Result T Located → Type 0
LineRead reading row cheap line result = (IsUtf8 line × ReadsText reading row cheap line result) ⊎ ((¬ IsUtf8 line) × (result ≡ Err (unplaced (IoError NotUtf8))))

-- One line of the source is taken and read, or none could be taken.
abbrev pub ReadsOneLine : {B T : Type 0} → Supply B → Reading T → ℕ → Bool → B → Result T Located → B → Type 0
ReadsOneLine supply reading row cheap old result new =
    ((line : List ℕ) × TakesOne supply old new line × (supply.faults new ≡ supply.faults old) × LineRead reading row cheap line result)
    ⊎ ((why : Error) × (result ≡ Err (unplaced why)) × LineRefused supply old why new)
