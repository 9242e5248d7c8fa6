-- Texts that are numbers in decimal.
use Rattle.std.proofs.Common.{◌≡◌, ◌≢◌, inl, ℕ, zero, suc, ◌<◌, ◌≤◌, ◌^◌, false, List, [], ◌∷◌, map, length, get_or, sym, ap, ◌∙◌, subst, arith, Option, Some, None, Result, Ok, Err}
use Rattle.std.specs.Result.{OkIff, result_ok}
use Rattle.std.specs.Prelude.{SomeIff}
use Rattle.std.specs.Char.{digit_value}
use Rattle.std.proofs.lemmas.Bool.Decides.{nat_tests}
use Rattle.numerals.specs.Numeral.{numeral, AllBelow, IsDigitText, text_value}
use Rattle.numerals.specs.Laws.{AllOfCase, HasNoLeadingZero}
use Rattle.numerals.proofs.Reading.{numeral_reads, numeral-text_value}
use Rattle.numerals.proofs.Steps.{numeral-small, numeral-first}
use Rattle.values.specs.Decimal.{IsDecimal}

-- no numeral but that of 0 begins with a zero
pub no_zero_in_front : (text : List ℕ) (n : ℕ) → n < 2 ^ 64 → 1 < length text → get_or text 0 0 ≡ 48 → text ≢ numeral 10 false n
no_zero_in_front text zero small long first e =
    let one : numeral 10 false 0 ≡ _ ∷ [] = numeral-small 10 0 false (omega arith) (omega arith) (omega arith) in
    absurd (omega (arith, long, ap length e, ap length one))
no_zero_in_front text (suc k) small long first e =
    numeral-first 10 (suc k) false (omega arith) (omega (arith, small)) (omega arith) (ap (λ (t : List ℕ). get_or t 0 0) (sym e) ∙ first)

digit_is_low : (c : ℕ) → digit_value c < 10 → c < 65
digit_is_low c h = grind (arith, nat_tests)

digits_of_case : (text : List ℕ) → AllBelow 10 (map digit_value text) → AllOfCase false text
digits_of_case [] h = tt
digits_of_case (c ∷ cs) h = (inl (digit_is_low c h.0), digits_of_case cs h.1)

-- a text whose digits stand for no number is no numeral
pub no_digits : (text : List ℕ) → SomeIff {T = ℕ} None (IsDigitText 10 text × (text_value 10 text < 2 ^ 128)) (text_value 10 text) → IsDecimal text None
no_digits text none n small e =
    let reads = numeral_reads 10 n false (omega arith) (omega arith) (omega (arith, small)) in
    let value : text_value 10 text ≡ n = ap (text_value 10) e ∙ reads.1 in
    none (subst (IsDigitText 10) (sym e) reads.0, omega (arith, value, small))

-- digits without a zero in front are the numeral of their number, if that isn't too large
pub is_decimal : (text : List ℕ) (number : ℕ) → SomeIff (Some number) (IsDigitText 10 text × (text_value 10 text < 2 ^ 128)) (text_value 10 text) → HasNoLeadingZero text → number < 2 ^ 64 → IsDecimal text (Some number)
is_decimal text number is lead small =
    let own : text ≡ numeral 10 false (text_value 10 text) = numeral-text_value 10 false text (omega arith) (omega arith) is.0.0 (digits_of_case text is.0.0.1) lead is.0.1 in
    (small, own ∙ ap (numeral 10 false) (sym is.1))

pub no_decimal : (text : List ℕ) (number : ℕ) → SomeIff (Some number) (IsDigitText 10 text × (text_value 10 text < 2 ^ 128)) (text_value 10 text) → 2 ^ 64 ≤ number → IsDecimal text None
no_decimal text number is large n small e =
    let reads = numeral_reads 10 n false (omega arith) (omega arith) (omega (arith, small)) in
    let value : text_value 10 text ≡ n = ap (text_value 10) e ∙ reads.1 in
    absurd (omega (arith, value, is.1, large, small))

-- the number, where it fits
pub fitted : {E : Type 0} (text : List ℕ) (number : ℕ) (r : Result ℕ E) → OkIff r (number < 2 ^ 64) number → SomeIff (Some number) (IsDigitText 10 text × (text_value 10 text < 2 ^ 128)) (text_value 10 text) → HasNoLeadingZero text → IsDecimal text (result_ok r)
fitted text number (Ok n) h is lead = subst (λ (k : ℕ). IsDecimal text (Some k)) (sym h.1) (is_decimal text number is lead h.0)
fitted text number (Err e) h is lead = no_decimal text number is (large h)
  where
    large : ¬ (number < 2 ^ 64) → 2 ^ 64 ≤ number
    large not_small = grind arith
