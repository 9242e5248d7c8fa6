-- Numbers read digit by digit, by steps that stop at the last value.
use Rattle.std.proofs.Common.{◌≡◌, ℕ, ◌+◌, ◌*◌, ◌-◌, min, List, [], ◌∷◌, ◌++◌, Option, Some, None, true, false, Bool, refl, length, arith, ◌∙◌, ap, sym, append_assoc}
use Rattle.std.specs.Prelude.{unwrap_or, ◌&&◌, slice_index}
use Rattle.std.specs.Char.{is_ascii_digit, digit_value}
use Rattle.std.specs.Str.{all_ascii_digits}
use Rattle.std.specs.Str.Parse.{digits_value_after}
use Rattle.std.specs.List.{IsFirstAndRest}
use Rattle.std.proofs.lemmas.Bool.Decides.{nat_tests}
use Rattle.strfmt.specs.Inner.Reading.{capped_number}
use Rattle.strfmt.specs.Grammar.Parts.{number_of, IsNumber}

abbrev last : ℕ
last = 18446744073709551615

-- the number so far, one more digit, both stopped at the last value
abbrev pub step : ℕ → ℕ → ℕ
step n b = min (min (n * 10) last + (b - 48)) last

-- digits were passed, which write the value so far, and rest is left
pub record Passed (text : List ℕ) (value : Option ℕ) (rest : List ℕ) : Type 0 where
  pub digits : List ℕ
  pub all : all_ascii_digits digits ≡ true
  pub whole : text ≡ digits ++ rest
  pub is : value ≡ capped_number (number_of digits)

pub passed_none : (text : List ℕ) → Passed text None text
passed_none text = record { digits = []; all = refl; whole = refl; is = refl }

digit_is : (b : ℕ) → is_ascii_digit b ≡ true → digit_value b ≡ b - 48
digit_is b h = grind (arith, nat_tests, h)

stopped : (n d : ℕ) → min (min (min n last * 10) last + d) last ≡ min (n * 10 + d) last
stopped n d = omega arith

and-push : (x a b : Bool) → (a ≡ true → b ≡ true) → (x && a) ≡ true → (x && b) ≡ true
and-push true a b f h = f h
and-push false a b f h = cc

all-push : (digits : List ℕ) (b : ℕ) → all_ascii_digits digits ≡ true → is_ascii_digit b ≡ true → all_ascii_digits (digits ++ b ∷ []) ≡ true
all-push [] b h d = rw d refl
all-push (c ∷ cs) b h d = and-push (is_ascii_digit c) (all_ascii_digits cs) (all_ascii_digits (cs ++ b ∷ [])) (λ k. all-push cs b k d) h

value-push : (n : ℕ) (digits : List ℕ) (b : ℕ) → digits_value_after 10 n (digits ++ b ∷ []) ≡ digits_value_after 10 n digits * 10 + digit_value b
value-push n [] b = refl
value-push n (c ∷ cs) b = value-push (n * 10 + digit_value c) cs b

-- the digits so far, or none, stand for a number that is 0 where there are none
so_far : (digits : List ℕ) → unwrap_or (capped_number (number_of digits)) 0 ≡ min (digits_value_after 10 0 digits) last
so_far [] = omega arith
so_far (c ∷ cs) = refl

some-push : (digits : List ℕ) (b : ℕ) → number_of (digits ++ b ∷ []) ≡ Some (digits_value_after 10 0 (digits ++ b ∷ []))
some-push [] b = refl
some-push (c ∷ cs) b = refl

pub passed_more : (text : List ℕ) (value : Option ℕ) (rest tail : List ℕ) (b : ℕ) → Passed text value rest → IsFirstAndRest rest b tail → is_ascii_digit b ≡ true → Passed text (Some (step (unwrap_or value 0) b)) tail
passed_more text value rest tail b p e d = record {
  digits = p.digits ++ b ∷ [];
  all = all-push p.digits b p.all d;
  whole = p.whole ∙ ap (λ (bs : List ℕ). p.digits ++ bs) e.0 ∙ sym (append_assoc p.digits (b ∷ []) tail);
  is =
      let n : ℕ = digits_value_after 10 0 p.digits in
      let before : unwrap_or value 0 ≡ min n last = ap (λ (v : Option ℕ). unwrap_or v 0) p.is ∙ so_far p.digits in
      let now : step (min n last) b ≡ min (n * 10 + digit_value b) last = ap (λ d. min (min (min n last * 10) last + d) last) (sym (digit_is b d)) ∙ stopped n (digit_value b) in
      let pushed : capped_number (number_of (p.digits ++ b ∷ [])) ≡ Some (min (n * 10 + digit_value b) last) =
      ap capped_number (some-push p.digits b) ∙ ap (λ m. Some (min m last)) (value-push 0 p.digits b) in
      ap (λ m. Some (step m b)) before ∙ ap (λ (m : ℕ). Some m) now ∙ sym pushed;
}

number_of_passed : (text : List ℕ) (value : Option ℕ) (rest : List ℕ) → Passed text value rest → is_ascii_digit (slice_index rest 0) ≡ false → (n : Option ℕ) × IsNumber text n rest × (value ≡ capped_number n)
number_of_passed text value rest p h = (number_of p.digits, (p.digits, p.all, h, refl, p.whole), p.is)

-- no digit stands in front of the rest
pub passed_stop : (text : List ℕ) (value : Option ℕ) (rest tail : List ℕ) (b : ℕ) → Passed text value rest → IsFirstAndRest rest b tail → is_ascii_digit b ≡ false
    → (n : Option ℕ) × IsNumber text n rest × (value ≡ capped_number n)
passed_stop text value rest tail b p e h = number_of_passed text value rest p (ap (λ (bs : List ℕ). is_ascii_digit (slice_index bs 0)) e.0 ∙ h)

pub passed_end : (text : List ℕ) (value : Option ℕ) (rest : List ℕ) → Passed text value rest → length rest ≡ 0 → (n : Option ℕ) × IsNumber text n rest × (value ≡ capped_number n)
passed_end text value [] p h = number_of_passed text value [] p refl
passed_end text value (b ∷ bs) p h = absurd (omega (arith, h))
