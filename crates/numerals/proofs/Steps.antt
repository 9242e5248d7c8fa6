-- Laws of the function `numeral` that other crates cite: steps, induction, lengths, characters.
use Rattle.std.proofs.Common.{zero, suc, Bool, true, false, ◌≢◌, ◌≡◌, ℕ, ◌+◌, ◌-◌, ◌*◌, ◌/◌, ◌%◌, ◌^◌, ◌<◌, ◌≤◌, List, [], ◌∷◌, ◌++◌, length, map, refl, sym, ap, subst, ◌∙◌, ⊎_elim, arith, get_or}
use Rattle.std.proofs.Math.Nat.{pow-zero, div-lt_self, pow-le-pow_right, div-le_self}
use Rattle.std.proofs.lemmas.Bool.Decides.{nat_tests}
use Rattle.std.proofs.lemmas.List.{map_push}
use Rattle.std.proofs.lemmas.Str.Parse.{digit_at}
use Rattle.std.specs.Fmt.{digit_glyph}
use Rattle.std.specs.Str.Parse.{AllDigits, digits_value}
use Rattle.numerals.specs.Numeral.{place_sum, AllBelow, IsNumeral, numeral, text_value}
use Rattle.numerals.proofs.Digits.{IsNumeral-small, IsNumeral-push, digits_from-AllBelow, digits_value-text_value}
use Rattle.numerals.proofs.Unique.{le_or_lt, place_sum-lt, numeral-ge, numeral_is, numeral_only, length-numeral, fits_wide}
use Rattle.numerals.proofs.Reading.{numeral_reads}

-- one digit
pub numeral-small : (b n : ℕ) (upper : Bool) → 2 ≤ b → n < b → n < 2 ^ 128 → numeral b upper n ≡ digit_glyph upper n ∷ []
numeral-small b n upper low small fits = sym (numeral_only b n upper (digit_glyph upper n ∷ []) low fits (n ∷ [], IsNumeral-small b n small, refl))

-- the last digit stands behind the numeral of the quotient
pub numeral-step : (b n : ℕ) (upper : Bool) → 2 ≤ b → b ≤ n → n < 2 ^ 128 → numeral b upper n ≡ numeral b upper (n / b) ++ digit_glyph upper (n % b) ∷ []
numeral-step b n upper low high fits =
    let front = numeral_is b (n / b) upper low (omega (arith, div-le_self n b, fits)) in
    let text : numeral b upper (n / b) ++ digit_glyph upper (n % b) ∷ [] ≡ map (digit_glyph upper) (front.0 ++ n % b ∷ []) =
    ap (λ (x : List ℕ). x ++ digit_glyph upper (n % b) ∷ []) front.2 ∙ sym (map_push (digit_glyph upper) front.0 (n % b)) in
    sym (numeral_only b n upper (numeral b upper (n / b) ++ digit_glyph upper (n % b) ∷ []) low fits (front.0 ++ n % b ∷ [], IsNumeral-push b n front.0 (omega (arith, low)) high front.1, text))

module _ (b : ℕ) (upper : Bool) (low : 2 ≤ b) (P : ℕ → List ℕ → Type 0) (one : (n : ℕ) → n < b → P n (digit_glyph upper n ∷ [])) (more : (n : ℕ) (text : List ℕ) → b ≤ n → P (n / b) text → P n (text ++ digit_glyph upper (n % b) ∷ [])) where
  by : (k n : ℕ) → n ≤ k → n < 2 ^ 128 → P n (numeral b upper n)
  by zero n le fits = subst (P n) (sym (numeral-small b n upper low (omega (arith, le, low)) fits)) (one n (omega (arith, le, low)))
  by (suc k) n le fits = ⊎_elim
      (λ high.
      let less : n / b < n = div-lt_self (omega (arith, high, low)) (omega (arith, low)) in
      subst (P n) (sym (numeral-step b n upper low high fits)) (more n (numeral b upper (n / b)) high (by k (n / b) (omega (arith, less, le)) (omega (arith, less, fits)))))
      (λ small. subst (P n) (sym (numeral-small b n upper low small fits)) (one n small))
      (le_or_lt b n)

  -- induction on the digits of a number below 2 ^ 128: one digit, then one more digit at the end
  pub numeral-by_steps : (n : ℕ) → n < 2 ^ 128 → P n (numeral b upper n)
  numeral-by_steps n fits = by n n (omega arith) fits

-- two numbers with one numeral are the same
pub numeral-injective : (b m n : ℕ) (upper : Bool) → 2 ≤ b → b ≤ 16 → m < 2 ^ 128 → n < 2 ^ 128 → numeral b upper m ≡ numeral b upper n → m ≡ n
numeral-injective b m n upper low high p q e = sym (numeral_reads b m upper low high p).1 ∙ ap (text_value b) e ∙ (numeral_reads b n upper low high q).1

-- at least one digit
pub numeral-some : (b n : ℕ) (upper : Bool) → 2 ≤ b → n < 2 ^ 128 → 0 < length (numeral b upper n)
numeral-some b n upper low fits = let it = length-numeral b n upper low fits in omega (arith, it.2, it.1.some)

-- at most k digits below b ^ k
pub length-numeral-fits : (b n k : ℕ) (upper : Bool) → 2 ≤ b → n < 2 ^ 128 → 0 < k → n < b ^ k → length (numeral b upper n) ≤ k
length-numeral-fits b n k upper low fits some small =
    let it = length-numeral b n upper low fits in
    ⊎_elim
    (λ fine. omega (arith, it.2, fine))
    (λ more.
    let pos : 0 < b = omega (arith, low) in
    let wide : b ^ k ≤ b ^ (length it.0 - 1) = pow-le-pow_right pos (omega (arith, more)) in
    absurd (omega (arith, wide, small, numeral-ge b n it.0 it.1 (omega (arith, more, some)))))
    (le_or_lt (length it.0) k)

-- n is below b to the number of its digits
pub numeral-lt : (b n : ℕ) (upper : Bool) → 2 ≤ b → n < 2 ^ 128 → n < b ^ length (numeral b upper n)
numeral-lt b n upper low fits =
    let it = length-numeral b n upper low fits in
    let top : place_sum b it.0 < b ^ length it.0 = place_sum-lt b it.0 it.1.below in
    omega (arith, top, it.1.adds_up, ap (λ k. b ^ k) it.2)

-- at most 128 digits, and 39 decimal ones
pub length-numeral-max : (b n : ℕ) (upper : Bool) → 2 ≤ b → n < 2 ^ 128 → length (numeral b upper n) ≤ 128
length-numeral-max b n upper low fits = length-numeral-fits b n 128 upper low fits (omega arith) (fits_wide b n low fits)

pub length-numeral-decimal : (n : ℕ) (upper : Bool) → n < 2 ^ 128 → length (numeral 10 upper n) ≤ 39
length-numeral-decimal n upper fits = length-numeral-fits 10 n 39 upper (omega arith) fits (omega arith) (omega (arith, fits))

-- no numeral but `0` begins with `0`
first_glyph : (upper : Bool) (d : ℕ) → 0 < d → digit_glyph upper d ≢ 48
first_glyph true d h = grind (arith, nat_tests)
first_glyph false d h = grind (arith, nat_tests)

first_of_digits : (b n : ℕ) (upper : Bool) (ds : List ℕ) → 0 < n → IsNumeral b n ds → get_or (map (digit_glyph upper) ds) 0 0 ≢ 48
first_of_digits b n upper [] some it = absurd (omega (arith, it.some))
first_of_digits b n upper (d ∷ []) some it = let value : d * 1 + 0 ≡ n = rw (pow-zero b) at it.adds_up in first_glyph upper d (omega (arith, value, some))
first_of_digits b n upper (d ∷ e ∷ ds) some it = first_glyph upper d (it.no_leading_zero (omega arith))

pub numeral-first : (b n : ℕ) (upper : Bool) → 2 ≤ b → n < 2 ^ 128 → 0 < n → get_or (numeral b upper n) 0 0 ≢ 48
numeral-first b n upper low fits some =
    let it = numeral_is b n upper low fits in
    subst (λ (text : List ℕ). get_or text 0 0 ≢ 48) (sym it.2) (first_of_digits b n upper it.0 some it.1)

-- in std's words: digits that `parse` and `from_str_radix` read as n
pub numeral-AllDigits : (b n : ℕ) (upper : Bool) → 2 ≤ b → b ≤ 16 → n < 2 ^ 128 → AllDigits b (numeral b upper n)
numeral-AllDigits b n upper low high fits = digits_from-AllBelow b (numeral b upper n) (numeral_reads b n upper low high fits).0.1

pub digits_value-numeral : (b n : ℕ) (upper : Bool) → 2 ≤ b → b ≤ 16 → n < 2 ^ 128 → digits_value b (numeral b upper n) ≡ n
digits_value-numeral b n upper low high fits = digits_value-text_value b (numeral b upper n) ∙ (numeral_reads b n upper low high fits).1

-- each character of a decimal numeral is `0` to `9`
pub numeral-decimal_digits : (n i : ℕ) (upper : Bool) → n < 2 ^ 128 → i < length (numeral 10 upper n) → (48 ≤ get_or (numeral 10 upper n) i 0) × (get_or (numeral 10 upper n) i 0 ≤ 57)
numeral-decimal_digits n i upper fits l = digit_at (numeral 10 upper n) i (numeral-AllDigits 10 n upper (omega arith) (omega arith) fits) l

-- the case of letters makes no difference below base 11
same_glyph : (d : ℕ) → d < 10 → digit_glyph true d ≡ digit_glyph false d
same_glyph d h = grind (arith, nat_tests)

decimal_glyphs : (b : ℕ) (ds : List ℕ) → b ≤ 10 → AllBelow b ds → map (digit_glyph true) ds ≡ map (digit_glyph false) ds
decimal_glyphs b [] high h = refl
decimal_glyphs b (d ∷ ds) high h =
    let first : digit_glyph true d ≡ digit_glyph false d = same_glyph d (omega (arith, high, h.0)) in
    let rest : map (digit_glyph true) ds ≡ map (digit_glyph false) ds = decimal_glyphs b ds high h.1 in
    λ i. first i ∷ rest i

pub numeral-case : (b n : ℕ) → 2 ≤ b → b ≤ 10 → n < 2 ^ 128 → numeral b true n ≡ numeral b false n
numeral-case b n low high fits =
    let it = numeral_is b n true low fits in
    numeral_only b n false (numeral b true n) low fits (it.0, it.1, it.2 ∙ decimal_glyphs b it.0 high it.1.below)
