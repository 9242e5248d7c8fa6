use Rattle.std.proofs.Common.{◌≡◌, ℕ, ◌<◌, true, arith}
use Rattle.std.proofs.lemmas.Bool.Decides.{nat_tests}
use Rattle.std.proofs.lemmas.Grind.{common_steps}
use Rattle.std.specs.List.{prefix_len}
use Rattle.sprintf.specs.Grammar.{is_flag}
use Rattle.sprintf.proofs.Runs.{boundary_behind}
use Rattle.sprintf.proofs.parser.cut_flags.Goals as goal

flag_low : (c : ℕ) → is_flag c ≡ true → c < 128
flag_low c h = grind (arith, nat_tests, common_steps)

pub split_at-requires : goal.split_at-requires
split_at-requires c =
    let n : c.flags_len.result ≡ prefix_len is_flag c.args.text.now = rw c.as_bytes.ensures.value at c.flags_len.ensures in
    rw n (boundary_behind is_flag flag_low c.args.text.now c.utf8.text)
