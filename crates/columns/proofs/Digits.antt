-- Digits in front of a text, and the numbers that they stand for.
use Rattle.std.proofs.Common.{◌≡◌, ◌<◌, ◌≤◌, ◌^◌, ◌+◌, ◌-◌, ◌*◌, ℕ, Bool, true, false, List, [], ◌∷◌, ◌++◌, length, get_or, take, inl, sym, ap, subst, refl, ◌∙◌, arith}
use Rattle.std.specs.Str.Parse.{digits_value}
use Rattle.std.specs.Char.{digit_value}
use Rattle.std.proofs.Math.Nat.{pow-le-pow_right}
use Rattle.std.proofs.lemmas.Int.Digits.{digits_push, digits_value_push, digits_value-lt}
use Rattle.std.proofs.lemmas.List.{take_more, length-take}
use Rattle.std.proofs.lemmas.Bool.Decides.{nat_tests}
use Rattle.numerals.specs.Laws.{IsOfCase, AllOfCase}
use Rattle.columns.specs.Inner.Shapes.{base_of, is_upper, safe_digits, AreDigits, IsDigit}
use Rattle.columns.specs.declared.hexadecimal.Notation.{Notation}
use Rattle.columns.specs.declared.hexadecimal.Notation.TheVariants.{Octal, Lower, Upper}

value_of_digit : (c : ℕ) → 48 ≤ c → c ≤ 57 → digit_value c ≡ c - 48
value_of_digit c low high = grind (arith, nat_tests)

no_letter : (upper : Bool) (c : ℕ) → c ≤ 57 → IsOfCase upper c
no_letter true c high = inl (omega (arith, high))
no_letter false c high = inl (omega (arith, high))

pub figure : (base : ℕ) (upper : Bool) (c n : ℕ) → 48 ≤ c → c ≤ 57 → n ≡ c - 48 → n < base → IsDigit base upper c n
figure base upper c n low high is small = record { small = small; letter = no_letter upper c high; value = value_of_digit c low high ∙ sym is }

case_push : (upper : Bool) (cs : List ℕ) (c : ℕ) → AllOfCase upper cs → IsOfCase upper c → AllOfCase upper (cs ++ c ∷ [])
case_push upper [] c all one = (one, tt)
case_push upper (x ∷ cs) c all one = (all.0, case_push upper cs c all.1 one)

-- one digit more
pub digits_more : (base : ℕ) (upper : Bool) (text : List ℕ) (i number c n next : ℕ) → i < length text → AreDigits base upper (take i text) number → get_or text i 0 ≡ c → IsDigit base upper c n → next ≡ number * base + n → AreDigits base upper (take (i + 1) text) next
digits_more base upper text i number c n next within before is one e =
    let longer : take (i + 1) text ≡ take i text ++ c ∷ [] = take_more text i 0 within ∙ ap (λ x. take i text ++ x ∷ []) is in
    let small : digit_value c < base = subst (λ k. k < base) (sym one.value) one.small in
    let value : digits_value base (take i text ++ c ∷ []) ≡ digits_value base (take i text) * base + digit_value c = digits_value_push base (take i text) c in
    subst (λ (t : List ℕ). AreDigits base upper t next) (sym longer) (record {
      digits = digits_push base (take i text) c before.digits small;
      letters = case_push upper (take i text) c before.letters one.letter;
      value = value ∙ ap (λ k. k * base + digit_value c) before.value ∙ ap (λ k. number * base + k) one.value ∙ sym e;
    })

-- one digit more in decimal
pub decimal_more : (text : List ℕ) (i number c next : ℕ) → i < length text → AreDigits 10 false (take i text) number → get_or text i 0 ≡ c → 48 ≤ c → c ≤ 57 → next ≡ number * 10 + (c - 48) → AreDigits 10 false (take (i + 1) text) next
decimal_more text i number c next within before is low high e = digits_more 10 false text i number c (c - 48) next within before is (figure 10 false c (c - 48) low high refl (omega (arith, low, high))) e

-- a number of at most eighteen digits
pub short_number : (text : List ℕ) (i number : ℕ) → AreDigits 10 false (take i text) number → i ≤ 18 → number < 1000000000000000000
short_number text i number digits few =
    let fewer : length (take i text) ≤ 18 = omega (arith, length-take i text, few) in
    let wide : 10 ^ length (take i text) ≤ 10 ^ 18 = pow-le-pow_right (omega arith) fewer in
    omega (arith, digits.value, digits_value-lt 10 (take i text) digits.digits, wide)

-- the number of digits of a notation, one fewer than are safe
pub safe_number : (notation : Notation) (text : List ℕ) (i number : ℕ) → AreDigits (base_of notation) (is_upper notation) (take i text) number → i < safe_digits notation → number < 1152921504606846976
safe_number Octal text i number digits few =
    let fewer : length (take i text) ≤ 20 = omega (arith, length-take i text, few) in
    let wide : 8 ^ length (take i text) ≤ 8 ^ 20 = pow-le-pow_right (omega arith) fewer in
    omega (arith, digits.value, digits_value-lt 8 (take i text) digits.digits, wide)
safe_number Lower text i number digits few =
    let fewer : length (take i text) ≤ 15 = omega (arith, length-take i text, few) in
    let wide : 16 ^ length (take i text) ≤ 16 ^ 15 = pow-le-pow_right (omega arith) fewer in
    omega (arith, digits.value, digits_value-lt 16 (take i text) digits.digits, wide)
safe_number Upper text i number digits few =
    let fewer : length (take i text) ≤ 15 = omega (arith, length-take i text, few) in
    let wide : 16 ^ length (take i text) ≤ 16 ^ 15 = pow-le-pow_right (omega arith) fewer in
    omega (arith, digits.value, digits_value-lt 16 (take i text) digits.digits, wide)

-- one digit behind such a number
pub safe_step : (notation : Notation) (number n : ℕ) → number < 1152921504606846976 → n < base_of notation → number * base_of notation + n < 18446744073709551616
safe_step Octal number n short small = omega (arith, short, small)
safe_step Lower number n short small = omega (arith, short, small)
safe_step Upper number n short small = omega (arith, short, small)
