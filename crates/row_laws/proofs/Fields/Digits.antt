-- The digits of a number, with zeros in front: what they are, and what they stand for.
use Rattle.std.proofs.Common.{◌≡◌, ◌≢◌, ◌<◌, ◌≤◌, ◌+◌, ◌*◌, ◌^◌, ℕ, zero, suc, Bool, false, List, [], ◌∷◌, ◌++◌, length, replicate, sym, ap, subst, refl, inr, ◌∙◌, arith, length-append}
use Rattle.std.specs.Char.{digit_value}
use Rattle.std.specs.Str.Parse.{AllDigits, digits_value, digits_value_after, without_leading_plus}
use Rattle.std.proofs.lemmas.Str.Parse.{without_leading_plus_none}
use Rattle.std.proofs.lemmas.Bool.Decides.{nat_tests}
use Rattle.numerals.specs.Numeral.{numeral, IsDigitText, text_value}
use Rattle.numerals.proofs.Digits.{AllBelow-from_digits, digits_from-AllBelow, digits_value-text_value}
use Rattle.numerals.proofs.Reading.{numeral_reads}
use Rattle.scan_fmt.specs.Grammar.{is_blank}
use Rattle.scan_fmt.specs.Scanned.{IsSigned}
use Rattle.scan_fmt.specs.Inner.Found.{IsPrefixed}
use Rattle.row_laws.proofs.Fields.Spaces.{AllPlain}

digit_plain : (c : ℕ) → digit_value c < 16 → (c < 128) × (is_blank c ≡ false)
digit_plain c h = (grind (arith, nat_tests), grind (arith, nat_tests))

pub digits_plain : (b : ℕ) (xs : List ℕ) → b ≤ 16 → AllDigits b xs → AllPlain xs
digits_plain b [] le h = tt
digits_plain b (x ∷ xs) le h = (digit_plain x (omega (arith, h.0, le)), digits_plain b xs le h.1)

digits_append : (b : ℕ) (xs ys : List ℕ) → AllDigits b xs → AllDigits b ys → AllDigits b (xs ++ ys)
digits_append b [] ys h k = k
digits_append b (x ∷ xs) ys h k = (h.0, digits_append b xs ys h.1 k)

pub digits_up : (b d : ℕ) (xs : List ℕ) → b ≤ d → AllDigits b xs → AllDigits d xs
digits_up b d [] le h = tt
digits_up b d (x ∷ xs) le h = (omega (arith, h.0, le), digits_up b d xs le h.1)

zeros_digits : (b n : ℕ) → 0 < b → AllDigits b (replicate n 48)
zeros_digits b zero h = tt
zeros_digits b (suc n) h = (omega (arith, h), zeros_digits b n h)

zeros_value : (b n : ℕ) (ds : List ℕ) → digits_value b (replicate n 48 ++ ds) ≡ digits_value b ds
zeros_value b zero ds = refl
zeros_value b (suc n) ds = (let e : 0 * b + 0 ≡ 0 = omega arith in ap (λ x. digits_value_after b x (replicate n 48 ++ ds)) e) ∙ zeros_value b n ds

-- the text is digits that stand for the number
pub record Body (b n : ℕ) (text : List ℕ) : Type 0 where
  pub some : 0 < length text
  pub each : AllDigits b text
  pub value : digits_value b text ≡ n

pub numeral_body : (b n : ℕ) (upper : Bool) → 2 ≤ b → b ≤ 16 → n < 2 ^ 128 → Body b n (numeral b upper n)
numeral_body b n upper low high small =
    let is = numeral_reads b n upper low high small in
    record {
      some = is.0.0;
      each = digits_from-AllBelow b (numeral b upper n) is.0.1;
      value = digits_value-text_value b (numeral b upper n) ∙ is.1;
    }

pub zeros_body : (b n z : ℕ) (text : List ℕ) → 0 < b → Body b n text → Body b n (replicate z 48 ++ text)
zeros_body b n z text low is = record {
  some = omega (arith, length-append (replicate z 48) text, is.some);
  each = digits_append b (replicate z 48) text (zeros_digits b z low) is.each;
  value = zeros_value b z text ∙ is.value;
}

-- as a text of digits
pub body_stands : (b n : ℕ) (text : List ℕ) → Body b n text → IsDigitText b text × (text_value b text ≡ n)
body_stands b n text is = ((is.some, AllBelow-from_digits b text is.each), sym (digits_value-text_value b text) ∙ is.value)

pub digits_signed : (text : List ℕ) → AllDigits 10 text → IsSigned text
digits_signed [] h = tt
digits_signed (c ∷ cs) h = (inr (inr h.0), h.1)

pub digits_prefixed : (text : List ℕ) → AllDigits 16 text → IsPrefixed text
digits_prefixed text h = ([], [], text, refl, tt, tt, h)

no_plus : (c : ℕ) → digit_value c < 10 → c ≢ 43
no_plus c h e = let k : digit_value 43 < 10 = subst (λ d. digit_value d < 10) e h in omega (arith, k)

-- there is no plus sign to be dropped
pub digits_kept : (text : List ℕ) → AllDigits 10 text → without_leading_plus text ≡ text
digits_kept [] h = refl
digits_kept (c ∷ cs) h = without_leading_plus_none (c ∷ cs) (no_plus c h.0)
