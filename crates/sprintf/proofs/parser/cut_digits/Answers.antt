use Rattle.std.proofs.Common.{◌≡◌, ℕ, ◌<◌, true, arith}
use Rattle.std.proofs.lemmas.Bool.Decides.{nat_tests}
use Rattle.std.proofs.lemmas.Grind.{common_steps}
use Rattle.std.specs.Char.{is_ascii_digit}
use Rattle.std.specs.List.{prefix_len}
use Rattle.sprintf.proofs.Runs.{boundary_behind}
use Rattle.sprintf.proofs.parser.cut_digits.Goals as goal

digit_low : (c : ℕ) → is_ascii_digit c ≡ true → c < 128
digit_low c h = grind (arith, nat_tests, common_steps)

pub split_at-requires : goal.split_at-requires
split_at-requires c =
    let n : c.digits_len.result ≡ prefix_len is_ascii_digit c.args.text.now = rw c.as_bytes.ensures.value at c.digits_len.ensures in
    rw n (boundary_behind is_ascii_digit digit_low c.args.text.now c.utf8.text)
