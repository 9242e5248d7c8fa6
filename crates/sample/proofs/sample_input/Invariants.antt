-- The rows before this number stand behind the headers.
use Rattle.std.proofs.Common.{◌≡◌, ◌≤◌, string_bytes}
use Rattle.sample.specs.Sample.{sample_bytes}
use Rattle.sample.proofs.sample_input.Given as goal

abbrev pub invariant-rows : goal.invariant-rows
invariant-rows l = (string_bytes l.text ≡ sample_bytes l.k) × (l.k ≤ l.n)
