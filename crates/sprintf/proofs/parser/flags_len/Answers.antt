use Rattle.std.proofs.Common.{arith, get_or, sym, ◌≡◌, false}
use Rattle.std.proofs.lemmas.List.Sums.{prefix_len_is}
use Rattle.sprintf.specs.Grammar.{is_flag}
use Rattle.sprintf.proofs.parser.flags_len.Goals as goal

pub returns-then-not-is_flag : goal.returns-then-not-is_flag
returns-then-not-is_flag c =
    let not_flag : is_flag (get_or c.args.bytes.now c.loop-i.i 0) ≡ false = cc in
    sym (prefix_len_is is_flag c.args.bytes.now c.loop-i.i 0 (omega arith) c.loop-i.invariant (λ _. not_flag))

pub returns : goal.returns
returns c = sym (prefix_len_is is_flag c.args.bytes.now _ 0 (omega arith) (λ k h. c.loop-i.invariant k (omega arith)) (λ h. absurd (omega arith)))
