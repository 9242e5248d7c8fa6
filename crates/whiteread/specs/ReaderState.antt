-- What a `Reader` shows of itself.
pub mod Buffer
pub mod ReaderWords
pub mod ReaderCalls
pub mod Opened
use Rattle.std.specs.Prelude.{◌≡◌, ℕ, List, Bool, string_bytes}
use Rattle.edge_io.specs.Supply.{Supply}
use Rattle.whiteread.specs.ReaderState.Buffer.{buffer_line, buffer_waiting}
use Rattle.whiteread.specs.declared.reader.Reader.{Reader}
use Rattle.whiteread.specs.declared.stream.error.IoFault.{IoFault}
use Rattle.whiteread.specs.declared.stream.error.IoFault.TheVariants.{ReadFault, NotUtf8, TooLong, CannotOpen}

-- The source that it reads.
abbrev pub reader_source : {B : Type 0} → Reader B → B
reader_source r = r.source

-- How many bytes it takes at most.
abbrev pub reader_limit : {B : Type 0} → Reader B → ℕ
reader_limit r = r.limit

-- How many bytes it has taken, without that of a probe.
abbrev pub reader_taken : {B : Type 0} → Reader B → ℕ
reader_taken r = r.taken

-- Whether a probe gave a byte: the input is longer than the limit.
abbrev pub reader_past : {B : Type 0} → Reader B → Bool
reader_past r = r.past

-- The bytes that were taken and wait for the next line.
abbrev pub reader_waiting : {B : Type 0} → Reader B → List ℕ
reader_waiting r = buffer_waiting r.buffer

-- The current line, its line feed included; empty where there is none.
abbrev pub reader_line : {B : Type 0} → Reader B → List ℕ
reader_line r = buffer_line r.buffer

-- How many bytes of the current line were passed.
abbrev pub reader_passed : {B : Type 0} → Reader B → ℕ
reader_passed r = r.passed

-- The number of the current line, from 1; 0 before the first.
abbrev pub reader_row : {B : Type 0} → Reader B → ℕ
reader_row r = r.row

-- How often each fault was met: the source counts failed reads, and the reader the others.
abbrev pub fault_counts : ℕ → ℕ → ℕ → IoFault → ℕ
fault_counts failed not_utf8 too_long ReadFault = failed
fault_counts failed not_utf8 too_long NotUtf8 = not_utf8
fault_counts failed not_utf8 too_long TooLong = too_long
fault_counts failed not_utf8 too_long CannotOpen = 0

-- How often a reader met each fault.
abbrev pub reader_faults : {B : Type 0} → Supply B → Reader B → IoFault → ℕ
reader_faults supply r = fault_counts (supply.faults r.source) r.not_utf8 r.too_long

-- A reader stays in its line: all that two states show is the same, but for the bytes of the line that were passed.
pub record StaysInLine {B : Type 0} (old new : Reader B) : Type 0 where
  pub source : reader_source new ≡ reader_source old
  pub limit : reader_limit new ≡ reader_limit old
  pub taken : reader_taken new ≡ reader_taken old
  pub past : reader_past new ≡ reader_past old
  pub waiting : reader_waiting new ≡ reader_waiting old
  pub line : reader_line new ≡ reader_line old
  pub row : reader_row new ≡ reader_row old
  pub faults : (supply : Supply B) → reader_faults supply new ≡ reader_faults supply old

-- Two states of a reader show the same.
pub record ShowsSame {B : Type 0} (old new : Reader B) : Type 0 where
  pub stays : StaysInLine old new
  pub passed : reader_passed new ≡ reader_passed old
