-- What a reader's buffer holds.
use Rattle.std.specs.Prelude.{ℕ, ◌-◌, List, slice_range}
use Rattle.whiteread.specs.declared.reader.buffer.Buffer.{Buffer}

-- The current line ends where the waiting bytes begin.
abbrev pub buffer_line : Buffer → List ℕ
buffer_line b = slice_range b.bytes.items (b.start - b.line) b.start

-- The bytes that wait for the next line.
abbrev pub buffer_waiting : Buffer → List ℕ
buffer_waiting b = slice_range b.bytes.items b.start b.end
