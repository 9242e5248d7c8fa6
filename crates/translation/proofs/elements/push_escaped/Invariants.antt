-- The characters so far are appended, their braces doubled.
use Rattle.std.proofs.Common.{◌≡◌, ◌++◌}
use Rattle.std.specs.Prelude.{string_bytes, encode_utf8_all}
use Rattle.row_format.specs.Planned.{escaped}
use Rattle.translation.proofs.elements.push_escaped.Given as goal

abbrev pub invariant-characters : goal.invariant-characters
invariant-characters l = string_bytes l.text ≡ string_bytes l.fn.text ++ escaped (encode_utf8_all l.yielded)
