use Rattle.std.proofs.Common.{arith, get_or}
use Rattle.std.proofs.lemmas.Bool.Decides.{nat_tests}
use Rattle.std.proofs.lemmas.Grind.{common_steps}
use Rattle.std.proofs.lemmas.List.Sums.{prefix_len_is}
use Rattle.std.proofs.Common.{sym, ◌≡◌, false}
use Rattle.std.specs.Char.{is_ascii_digit}
use Rattle.sprintf.proofs.parser.digits_len.Goals as goal

pub returns-then-not-is_ascii_digit : goal.returns-then-not-is_ascii_digit
returns-then-not-is_ascii_digit c =
    let not_digit : is_ascii_digit (get_or c.args.bytes.now c.loop-i.i 0) ≡ false = grind (arith, nat_tests, common_steps) in
    sym (prefix_len_is is_ascii_digit c.args.bytes.now c.loop-i.i 0 (omega arith) c.loop-i.invariant (λ _. not_digit))

pub returns : goal.returns
returns c = sym (prefix_len_is is_ascii_digit c.args.bytes.now _ 0 (omega arith) (λ k h. c.loop-i.invariant k (omega arith)) (λ h. absurd (omega arith)))
