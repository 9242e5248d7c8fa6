use Rattle.std.proofs.Common.{◌≡◌, ◌-◌, ℕ, List, ◌<◌, ◌+◌, ◌*◌, take, drop, length, get_or, ap, sym, ◌∙◌, arith, length-drop, get_or-drop}
use Rattle.columns.specs.Inner.Shapes.{base_of, is_upper, safe_digits}
use Rattle.std.proofs.lemmas.List.{take_rest}
use Rattle.columns.proofs.Digits.{digits_more, safe_number, safe_step}
use Rattle.columns.proofs.hexadecimal.more_digits.Goals as goal

pub overflow_mul-number : goal.overflow_mul-number
overflow_mul-number c =
    let few : c.digits.count < safe_digits c.args.notation = omega (arith, c.digits.invariant.counted, c.digits-test.true, length-drop c.args.known c.args.text.now, c.requires.few) in
    let short = safe_number c.args.notation c.args.text.now c.digits.count c.digits.number c.digits.invariant.digits few in
    let base : c.digits.number * c.base.result ≡ c.digits.number * base_of c.args.notation = ap (λ k. c.digits.number * k) c.base.ensures in
    omega (arith, base, safe_step c.args.notation c.digits.number c.in-Some.digit short c.in-Some.ensures.small)

pub overflow_add-number : goal.overflow_add-number
overflow_add-number c =
    let few : c.digits.count < safe_digits c.args.notation = omega (arith, c.digits.invariant.counted, c.digits-test.true, length-drop c.args.known c.args.text.now, c.requires.few) in
    let short = safe_number c.args.notation c.args.text.now c.digits.count c.digits.number c.digits.invariant.digits few in
    let base : c.digits.number * c.base.result ≡ c.digits.number * base_of c.args.notation = ap (λ k. c.digits.number * k) c.base.ensures in
    omega (arith, base, c.from.ensures, safe_step c.args.notation c.digits.number c.in-Some.digit short c.in-Some.ensures.small)

pub digits-preserved : goal.digits-preserved
digits-preserved c = record {
  counted = omega (arith, c.digits.invariant.counted);
  digits = digits_more (base_of c.args.notation) (is_upper c.args.notation) c.args.text.now c.digits.count c.digits.number (get_or (take (length c.args.text.now - c.args.known) (drop c.args.known c.args.text.now)) c.digits.byte-index 0) c.in-Some.digit _ (omega (arith, c.digits.invariant.counted, c.digits-test.true, length-drop c.args.known c.args.text.now)) c.digits.invariant.digits
      (ap (λ i. get_or c.args.text.now i 0) c.digits.invariant.counted ∙ sym (get_or-drop c.args.known c.args.text.now c.digits.byte-index 0) ∙ ap (λ (l : List ℕ). get_or l c.digits.byte-index 0) (sym (take_rest c.args.text.now c.args.known)))
      c.in-Some.ensures
      (ap (λ k. c.digits.number * k + c.from.result) c.base.ensures ∙ ap (λ n. c.digits.number * base_of c.args.notation + n) c.from.ensures);
}
