-- What stands under the characters so far was pushed.
use Rattle.std.proofs.Common.{◌≡◌, ◌++◌, map}
use Rattle.std.specs.Prelude.{string_bytes, min}
use Rattle.whiteread.proofs.reader.error.push_under.Given as goal

abbrev pub invariant-characters : goal.invariant-characters
invariant-characters l = string_bytes l.out ≡ string_bytes l.fn.out ++ map (λ c. min c 32) l.yielded
