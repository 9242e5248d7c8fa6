-- Which lines of an input are reached within a limit.
use Rattle.std.specs.Prelude.{ℕ, List, Bool, length, take, nat_le, if◌then◌else◌}
use Rattle.whiteread.specs.Lines.{lines_of, up_to_last_feed}

-- Whether the end of the input is reached: where it has no more bytes than the limit.
abbrev pub reaches_end : ℕ → List ℕ → Bool
reaches_end limit bytes = nat_le (length bytes) limit

-- How many bytes one read of the input gives at most.
abbrev pub one_read : ℕ
one_read = 4096

-- The lines that line feeds end within the first so many bytes.
abbrev pub ended_lines : ℕ → List ℕ → List (List ℕ)
ended_lines count bytes = lines_of (up_to_last_feed (take count bytes))

-- The lines that are reached: all where the end is reached, else those that line feeds end within the limit.
abbrev pub reached_lines : ℕ → List ℕ → List (List ℕ)
reached_lines limit bytes = if reaches_end limit bytes then lines_of bytes else ended_lines limit bytes
