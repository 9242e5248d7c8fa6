-- Each number has exactly one numeral, and the function `numeral` gives it.
use Rattle.std.proofs.Common.{zero, Bool, false, append_assoc, ◌≡◌, ℕ, suc, ◌+◌, ◌-◌, ◌*◌, ◌/◌, ◌%◌, ◌^◌, ◌<◌, ◌≤◌, List, [], ◌∷◌, ◌++◌, length, map, refl, sym, ap, ◌∙◌, ⊎_elim, ◌⊎◌, inl, inr, subst, arith, ◌↔◌}
use Rattle.std.proofs.Math.Nat.{pow-suc, pow-zero, mod-eq_of_lt, div-eq_of_lt, pow-le-pow_left, pow-le-pow_right, mul-le-mul_right, mul-le-mul_left, div-lt_iff_lt-mul, le-div_iff_mul-le}
use Rattle.std.proofs.lemmas.Nat.{mul-add-lt}
use Rattle.std.proofs.lemmas.Bool.{cases_order}
use Rattle.std.proofs.lemmas.Bool.Decides.{nat_tests}
use Rattle.std.proofs.lemmas.List.{map_push, append-nil, length-map}
use Rattle.std.specs.Fmt.{digit_glyph, digits_onto, digits, decimal}
use Rattle.numerals.specs.Numeral.{place_sum, AllBelow, IsNumeral, IsNumeralText, numeral}
use Rattle.numerals.proofs.Digits.{IsNumeral-small, IsNumeral-push}

pub le_or_lt : (m n : ℕ) → (m ≤ n) ⊎ (n < m)
le_or_lt m n = ⊎_elim (λ same. inl (omega (arith, same))) (λ other. ⊎_elim (λ less. inl (omega (arith, less))) (λ more. inr more) other) (cases_order m n)

-- digits of equal number and equal value are the same

pub place_sum-lt : (b : ℕ) (ds : List ℕ) → AllBelow b ds → place_sum b ds < b ^ length ds
place_sum-lt b [] h = omega (arith, pow-zero b)
place_sum-lt b (d ∷ ds) h = omega (arith, pow-suc b (length ds), mul-add-lt d (b ^ length ds) (place_sum b ds) b h.0 (place_sum-lt b ds h.1))

same_quotient : (d e r s w : ℕ) → r < w → s < w → d * w + r ≡ e * w + s → d ≡ e
same_quotient d e r s w p q h = ⊎_elim
    (λ same. same)
    (λ other. absurd (⊎_elim
    (λ less. omega (arith, h, mul-add-lt d w r e less p))
    (λ more. omega (arith, h, mul-add-lt e w s d more q))
    other))
    (cases_order d e)

pub same_digits : (b : ℕ) (ds es : List ℕ) → AllBelow b ds → AllBelow b es → length ds ≡ length es → place_sum b ds ≡ place_sum b es → ds ≡ es
same_digits b [] [] p q l h = refl
same_digits b [] (e ∷ es) p q l h = absurd (omega (arith, l))
same_digits b (d ∷ ds) [] p q l h = absurd (omega (arith, l))
same_digits b (d ∷ ds) (e ∷ es) p q l h =
    let len : length ds ≡ length es = omega (arith, l) in
    let wide : b ^ length ds ≡ b ^ length es = ap (λ k. b ^ k) len in
    let same : d * b ^ length es + place_sum b ds ≡ e * b ^ length es + place_sum b es = rw wide at h in
    let low : place_sum b ds < b ^ length es = rw wide at (place_sum-lt b ds p.1) in
    let first : d ≡ e = same_quotient d e (place_sum b ds) (place_sum b es) (b ^ length es) low (place_sum-lt b es q.1) same in
    let rest : ds ≡ es = same_digits b ds es p.1 q.1 len (omega (arith, same, ap (λ x. x * b ^ length es) first)) in
    λ i. first i ∷ rest i

-- a numeral of more than one digit is at least the value of its first place
pub numeral-ge : (b n : ℕ) (ds : List ℕ) → IsNumeral b n ds → 1 < length ds → b ^ (length ds - 1) ≤ n
numeral-ge b n [] h l = absurd (omega (arith, l))
numeral-ge b n (d ∷ ds) h l =
    let first : 0 < d = h.no_leading_zero l in
    let place : 1 * b ^ length ds ≤ d * b ^ length ds = mul-le-mul_right (b ^ length ds) first in
    let same : suc (length ds) - 1 ≡ length ds = omega arith in
    rw same (omega (arith, place, h.adds_up))

-- a greater number has no fewer digits
pub longer : (b m n : ℕ) (ds es : List ℕ) → 0 < b → m ≤ n → IsNumeral b m ds → IsNumeral b n es → length ds ≤ length es
longer b m n ds es pos le p q = ⊎_elim
    (λ fine. fine)
    (λ shorter.
    let top : place_sum b es < b ^ length es = place_sum-lt b es q.below in
    let wide : b ^ length es ≤ b ^ (length ds - 1) = pow-le-pow_right pos (omega (arith, shorter)) in
    absurd (omega (arith, le, top, q.adds_up, wide, numeral-ge b m ds p (omega (arith, shorter, q.some)))))
    (le_or_lt (length ds) (length es))

-- no number has two numerals
pub one_numeral : (b n : ℕ) (ds es : List ℕ) → 0 < b → IsNumeral b n ds → IsNumeral b n es → ds ≡ es
one_numeral b n ds es pos p q =
    same_digits b ds es p.below q.below (omega (arith, longer b n n ds es pos (omega arith) p q, longer b n n es ds pos (omega arith) q p)) (p.adds_up ∙ sym q.adds_up)

onto_last : (b k n : ℕ) (upper : Bool) (acc : List ℕ) → n / b ≡ 0 → digits_onto (suc k) b upper n acc ≡ digit_glyph upper (n % b) ∷ acc
onto_last b k n upper acc e = rw e refl

onto_step : (b k n : ℕ) (upper : Bool) (acc : List ℕ) → 0 < n / b → digits_onto (suc k) b upper n acc ≡ digits_onto k b upper (n / b) (digit_glyph upper (n % b) ∷ acc)
onto_step b k n upper acc h = grind (arith, nat_tests)

-- what the function spells in front of what stands already
record Spells (b n k : ℕ) (upper : Bool) (acc : List ℕ) : Type 0 where
  ds : List ℕ
  is : IsNumeral b n ds
  spelled : digits_onto k b upper n acc ≡ map (digit_glyph upper) ds ++ acc

more_room : (b k n : ℕ) → b ≤ n → n < b ^ suc k → 0 < k
more_room b zero n high fits = let one : b ^ 1 ≡ b = rw (pow-suc b 0, pow-zero b) (omega arith) in absurd (omega (arith, high, fits, one))
more_room b (suc k) n high fits = omega arith

spells_small : (b k n : ℕ) (upper : Bool) (acc : List ℕ) → n < b → Spells b n (suc k) upper acc
spells_small b k n upper acc small =
    let low_digit : n % b ≡ n = mod-eq_of_lt small in
    record { ds = n ∷ []; is = IsNumeral-small b n small; spelled = onto_last b k n upper acc (div-eq_of_lt small) ∙ ap (λ d. digit_glyph upper d ∷ acc) low_digit }

spells_more : (b k n : ℕ) (upper : Bool) (acc : List ℕ) → 0 < b → b ≤ n → Spells b (n / b) k upper (digit_glyph upper (n % b) ∷ acc) → Spells b n (suc k) upper acc
spells_more b k n upper acc pos high ih =
    let more : 0 < n / b = (le-div_iff_mul-le pos).1 (omega (arith, high)) in
    let text : map (digit_glyph upper) (ih.ds ++ n % b ∷ []) ≡ map (digit_glyph upper) ih.ds ++ digit_glyph upper (n % b) ∷ [] = map_push (digit_glyph upper) ih.ds (n % b) in
    record {
      ds = ih.ds ++ n % b ∷ [];
      is = IsNumeral-push b n ih.ds pos high ih.is;
      spelled = onto_step b k n upper acc more ∙ ih.spelled ∙ sym (append_assoc (map (digit_glyph upper) ih.ds) (digit_glyph upper (n % b) ∷ []) acc) ∙ ap (λ (x : List ℕ). x ++ acc) (sym text);
    }

spells : (b k n : ℕ) (upper : Bool) (acc : List ℕ) → 2 ≤ b → 0 < k → n < b ^ k → Spells b n k upper acc
spells b zero n upper acc low some fits = absurd (omega (arith, some))
spells b (suc k) n upper acc low some fits = ⊎_elim
    (λ high. spells_more b k n upper acc (omega (arith, low)) high (spells b k (n / b) upper (digit_glyph upper (n % b) ∷ acc) low (more_room b k n high fits) ((div-lt_iff_lt-mul (omega (arith, low))).1 (omega (arith, fits, pow-suc b k)))))
    (λ small. spells_small b k n upper acc small)
    (le_or_lt b n)

-- every number of at most 128 digits has a numeral, and the function gives it
pub numeral_is_wide : (b n : ℕ) (upper : Bool) → 2 ≤ b → n < b ^ 128 → IsNumeralText b n upper (numeral b upper n)
unfolding numeral
numeral_is_wide b n upper low fits =
    let it = spells b 128 n upper [] low (omega arith) fits in
    (it.ds, it.is, it.spelled ∙ append-nil (map (digit_glyph upper) it.ds))

pub fits_wide : (b n : ℕ) → 2 ≤ b → n < 2 ^ 128 → n < b ^ 128
fits_wide b n low fits = omega (arith, fits, pow-le-pow_left low 128)

-- every number below 2 ^ 128 has a numeral, and the function gives it
pub numeral_is : (b n : ℕ) (upper : Bool) → 2 ≤ b → n < 2 ^ 128 → IsNumeralText b n upper (numeral b upper n)
numeral_is b n upper low fits = numeral_is_wide b n upper low (fits_wide b n low fits)

-- no other text is one
pub numeral_only : (b n : ℕ) (upper : Bool) (text : List ℕ) → 2 ≤ b → n < 2 ^ 128 → IsNumeralText b n upper text → text ≡ numeral b upper n
numeral_only b n upper text low fits it =
    let own = numeral_is b n upper low fits in
    it.2 ∙ ap (map (digit_glyph upper)) (one_numeral b n it.0 own.0 (omega (arith, low)) it.1 own.1) ∙ sym own.2

pub numeral_iff : (b n : ℕ) (upper : Bool) (text : List ℕ) → 2 ≤ b → n < 2 ^ 128 → IsNumeralText b n upper text ↔ (text ≡ numeral b upper n)
numeral_iff b n upper text low fits =
    (numeral_only b n upper text low fits, λ e. subst (IsNumeralText b n upper) (sym e) (numeral_is b n upper low fits))

-- std's text of a number that fits 64 bits
pub digits_is : (b n : ℕ) (upper : Bool) → 2 ≤ b → n < b ^ 64 → IsNumeralText b n upper (digits b upper n)
unfolding digits
digits_is b n upper low fits =
    let it = spells b 64 n upper [] low (omega arith) fits in
    (it.ds, it.is, it.spelled ∙ append-nil (map (digit_glyph upper) it.ds))

pub numeral-digits : (b n : ℕ) (upper : Bool) → 2 ≤ b → n < 2 ^ 64 → numeral b upper n ≡ digits b upper n
numeral-digits b n upper low fits =
    sym (numeral_only b n upper (digits b upper n) low (omega (arith, fits)) (digits_is b n upper low (omega (arith, fits, pow-le-pow_left low 64))))

pub numeral-decimal : (n : ℕ) → n < 2 ^ 64 → numeral 10 false n ≡ decimal n
numeral-decimal n fits = numeral-digits 10 n false (omega arith) fits

-- lengths

pub length-numeral : (b n : ℕ) (upper : Bool) → 2 ≤ b → n < 2 ^ 128 → (ds : List ℕ) × IsNumeral b n ds × (length (numeral b upper n) ≡ length ds)
length-numeral b n upper low fits = let it = numeral_is b n upper low fits in (it.0, it.1, ap length it.2 ∙ length-map it.0 (digit_glyph upper))

pub length-numeral-le : (b m n : ℕ) (upper : Bool) → 2 ≤ b → m ≤ n → n < 2 ^ 128 → length (numeral b upper m) ≤ length (numeral b upper n)
length-numeral-le b m n upper low le fits =
    let it = length-numeral b m upper low (omega (arith, le, fits)) in
    let other = length-numeral b n upper low fits in
    omega (arith, it.2, other.2, longer b m n it.0 other.0 (omega (arith, low)) le it.1 other.1)

-- n has this many digits, in either case of letters
pub length-numeral_is : (b n : ℕ) (upper : Bool) (ds : List ℕ) → 2 ≤ b → n < 2 ^ 128 → IsNumeral b n ds → length ds ≡ length (numeral b upper n)
length-numeral_is b n upper ds low fits it =
    let own = length-numeral b n upper low fits in
    ap length (one_numeral b n ds own.0 (omega (arith, low)) it own.1) ∙ sym own.2

-- a number between two powers of the base
pub length-numeral-between : (b n k : ℕ) (upper : Bool) → 2 ≤ b → n < 2 ^ 128 → b ^ k ≤ n → n < b ^ suc k → length (numeral b upper n) ≡ suc k
length-numeral-between b n k upper low fits above below =
    let it = length-numeral b n upper low fits in
    let pos : 0 < b = omega (arith, low) in
    it.2 ∙ ⊎_elim
    (λ same. same)
    (λ other. absurd (⊎_elim
    (λ fewer.
    let top : place_sum b it.0 < b ^ length it.0 = place_sum-lt b it.0 it.1.below in
    let wide : b ^ length it.0 ≤ b ^ k = pow-le-pow_right pos (omega (arith, fewer)) in
    omega (arith, top, it.1.adds_up, wide, above))
    (λ more.
    let wide : b ^ suc k ≤ b ^ (length it.0 - 1) = pow-le-pow_right pos (omega (arith, more)) in
    omega (arith, wide, below, numeral-ge b n it.0 it.1 (omega (arith, more))))
    other))
    (cases_order (length it.0) (suc k))

-- a number below its base has one digit
pub length-numeral-small : (b n : ℕ) (upper : Bool) → 2 ≤ b → n < 2 ^ 128 → n < b → length (numeral b upper n) ≡ 1
length-numeral-small b n upper low fits small = sym (length-numeral_is b n upper (n ∷ []) low fits (IsNumeral-small b n small))

-- half of a number takes a bit less
pub quotient-lt : (b n k : ℕ) → 2 ≤ b → 0 < k → n < 2 ^ k → n / b < 2 ^ (k - 1)
quotient-lt b n zero low some fits = absurd (omega (arith, some))
quotient-lt b n (suc k) low some fits =
    let same : suc k - 1 ≡ k = omega arith in
    let wide : 2 ^ k * 2 ≤ 2 ^ k * b = mul-le-mul_left (2 ^ k) low in
    let pos : 0 < b = omega (arith, low) in
    rw same ((div-lt_iff_lt-mul pos).1 (omega (arith, fits, pow-suc 2 k, wide)))

-- the function, written out
pub numeral_spelled : (b n : ℕ) (upper : Bool) → digits_onto 128 b upper n [] ≡ numeral b upper n
unfolding numeral
numeral_spelled b n upper = refl
