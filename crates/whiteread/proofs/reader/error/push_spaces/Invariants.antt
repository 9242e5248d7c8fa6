-- So many spaces were pushed.
use Rattle.std.proofs.Common.{◌≡◌, ◌++◌, replicate}
use Rattle.std.specs.Prelude.{string_bytes}
use Rattle.whiteread.proofs.reader.error.push_spaces.Given as goal

abbrev pub invariant-spaces : goal.invariant-spaces
invariant-spaces l = string_bytes l.out ≡ string_bytes l.fn.out ++ replicate l.i 32
