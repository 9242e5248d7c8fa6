use Rattle.std.proofs.Common.{◌≡◌, ◌++◌, ◌+◌, ◌*◌, ◌≤◌, string_bytes, string_len}
use Rattle.std.specs.Prelude.{string_capacity}
use Rattle.std.specs.Char.{len_utf8}
use Rattle.padding.specs.Field.{fills}
use Rattle.padding.proofs.push_copies.Given as goal

abbrev pub invariant-copies : goal.invariant-copies
invariant-copies l = record {
  bytes : string_bytes l.out ≡ string_bytes l.initial.out ++ fills l.i l.fill;
  len : string_len l.out ≡ string_len l.initial.out + l.i * len_utf8 l.fill;
  capacity : string_capacity l.initial.out ≤ string_capacity l.out;
}
