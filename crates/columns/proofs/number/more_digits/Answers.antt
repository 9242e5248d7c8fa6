use Rattle.std.proofs.Common.{◌-◌, ℕ, List, ◌≤◌, ◌+◌, ◌*◌, take, drop, length, get_or, ap, sym, ◌∙◌, arith, length-drop, get_or-drop}
use Rattle.std.proofs.lemmas.List.{take_rest}
use Rattle.columns.proofs.Digits.{decimal_more, short_number}
use Rattle.columns.proofs.number.more_digits.Goals as goal

pub overflow_mul-number : goal.overflow_mul-number
overflow_mul-number c =
    let few : c.digits.count ≤ 18 = omega (arith, c.digits.invariant.counted, c.digits-test.true, length-drop c.args.known c.args.text.now, c.requires.few) in
    omega (arith, short_number c.args.text.now c.digits.count c.digits.number c.digits.invariant.digits few)

pub overflow_add-number : goal.overflow_add-number
overflow_add-number c =
    let few : c.digits.count ≤ 18 = omega (arith, c.digits.invariant.counted, c.digits-test.true, length-drop c.args.known c.args.text.now, c.requires.few) in
    omega (arith, c.from.ensures, c.if-not-is_ascii_digit.ensures.cases, short_number c.args.text.now c.digits.count c.digits.number c.digits.invariant.digits few)

pub digits-preserved : goal.digits-preserved
digits-preserved c = record {
  counted = omega (arith, c.digits.invariant.counted);
  digits = decimal_more c.args.text.now c.digits.count c.digits.number (get_or (take (length c.args.text.now - c.args.known) (drop c.args.known c.args.text.now)) c.digits.byte-index 0) _ (omega (arith, c.digits.invariant.counted, c.digits-test.true, length-drop c.args.known c.args.text.now)) c.digits.invariant.digits
      (ap (λ i. get_or c.args.text.now i 0) c.digits.invariant.counted ∙ sym (get_or-drop c.args.known c.args.text.now c.digits.byte-index 0) ∙ ap (λ (l : List ℕ). get_or l c.digits.byte-index 0) (sym (take_rest c.args.text.now c.args.known)))
      (omega (arith, c.if-not-is_ascii_digit.ensures.cases)) (omega (arith, c.if-not-is_ascii_digit.ensures.cases))
      (ap (λ x. c.digits.number * 10 + x) c.from.ensures);
}
