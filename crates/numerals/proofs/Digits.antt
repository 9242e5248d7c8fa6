-- What the digits of a number are to those of its quotient.
use Rattle.std.proofs.Common.{ap, Result, Ok, Err, ◌≢◌, ◌≡◌, ℕ, suc, ◌+◌, ◌*◌, ◌/◌, ◌%◌, ◌^◌, ◌<◌, ◌≤◌, List, [], ◌∷◌, ◌++◌, length, map, ◌∙◌, arith, length-append, get_or}
use Rattle.std.proofs.Math.Nat.{pow-suc, pow-zero, le-div_iff_mul-le}
use Rattle.std.proofs.lemmas.Grind.{common_steps}
use Rattle.std.specs.Char.{digit_value}
use Rattle.std.specs.Option.{SomeIff}
use Rattle.std.specs.Result.{result_ok}
use Rattle.std.specs.Int.Digits.{number_from_digits_after}
use Rattle.std.specs.Str.Parse.{AllDigits, digits_value, ParsesUnsigned, without_leading_plus}
use Rattle.std.proofs.lemmas.Int.Digits.{digits_value_is}
use Rattle.std.proofs.lemmas.Str.Parse.{without_leading_plus_none}
use Rattle.numerals.specs.Numeral.{place_sum, AllBelow, IsNumeral, IsDigitText, text_value}

pub place_sum-push : (b d : ℕ) (ds : List ℕ) → place_sum b (ds ++ d ∷ []) ≡ place_sum b ds * b + d
place_sum-push b d [] = grind (arith, common_steps)
place_sum-push b d (x ∷ xs) =
    let len : length (xs ++ d ∷ []) ≡ suc (length xs) = omega (arith, length-append xs (d ∷ [])) in
    let ih : place_sum b (xs ++ d ∷ []) ≡ place_sum b xs * b + d = place_sum-push b d xs in
    rw (len, pow-suc, ih) (omega arith)

pub AllBelow-push : (b d : ℕ) (ds : List ℕ) → AllBelow b ds → d < b → AllBelow b (ds ++ d ∷ [])
AllBelow-push b d [] h k = (k, tt)
AllBelow-push b d (x ∷ xs) h k = (h.0, AllBelow-push b d xs h.1 k)

pub IsNumeral-small : (b d : ℕ) → d < b → IsNumeral b d (d ∷ [])
IsNumeral-small b d h = record { some = omega arith; below = (h, tt); adds_up = grind (arith, common_steps); no_leading_zero = λ k. absurd (omega (arith, k)) }

pub leads : (b n : ℕ) (ds : List ℕ) (d : ℕ) → 0 < n → IsNumeral b n ds → 0 < get_or (ds ++ d ∷ []) 0 0
leads b n [] d h k = absurd (omega (arith, k.some))
leads b n (x ∷ []) d h k = grind (arith, common_steps, k.adds_up)
leads b n (x ∷ y ∷ ys) d h k = k.no_leading_zero (omega arith)

pub IsNumeral-push : (b n : ℕ) (ds : List ℕ) → 0 < b → b ≤ n → IsNumeral b (n / b) ds → IsNumeral b n (ds ++ n % b ∷ [])
IsNumeral-push b n ds pos high k =
    let quot : 0 < n / b = (le-div_iff_mul-le pos).1 (omega arith) in
    record {
      some = omega (arith, length-append ds (n % b ∷ []));
      below = AllBelow-push b (n % b) ds k.below (omega arith);
      adds_up = rw (place_sum-push b (n % b) ds, k.adds_up) (omega arith);
      no_leading_zero = λ _. leads b (n / b) ds (n % b) quot k;
    }

-- std's reading of digits, by place values
number_after-place_sum : (b n : ℕ) (ds : List ℕ) → number_from_digits_after b n ds ≡ n * b ^ length ds + place_sum b ds
number_after-place_sum b n [] = grind (arith, common_steps, pow-zero b)
number_after-place_sum b n (d ∷ ds) =
    let ih : number_from_digits_after b (n * b + d) ds ≡ (n * b + d) * b ^ length ds + place_sum b ds = number_after-place_sum b (n * b + d) ds in
    rw (ih, pow-suc b (length ds)) (omega arith)

pub digits_value-text_value : (b : ℕ) (bs : List ℕ) → digits_value b bs ≡ text_value b bs
digits_value-text_value b bs = digits_value_is b bs ∙ number_after-place_sum b 0 (map digit_value bs) ∙ omega arith

pub AllBelow-from_digits : (b : ℕ) (bs : List ℕ) → AllDigits b bs → AllBelow b (map digit_value bs)
AllBelow-from_digits b [] h = tt
AllBelow-from_digits b (c ∷ cs) h = (h.0, AllBelow-from_digits b cs h.1)

pub digits_from-AllBelow : (b : ℕ) (bs : List ℕ) → AllBelow b (map digit_value bs) → AllDigits b bs
digits_from-AllBelow b [] h = tt
digits_from-AllBelow b (c ∷ cs) h = (h.0, digits_from-AllBelow b cs h.1)

pub no_plus : (bs : List ℕ) → ((rest : List ℕ) → bs ≡ 43 ∷ [] ++ rest → ⊥) → get_or bs 0 0 ≢ 43
no_plus [] h = λ e. absurd (omega (arith, e))
no_plus (c ∷ cs) h = λ e. h cs (ap (λ x. x ∷ cs) e)

-- what std's reading answers of a text that does not begin with a plus
pub reads_text : {E : Type 0} (b : ℕ) (bs : List ℕ) (r : Result ℕ E) → get_or bs 0 0 ≢ 43 → ParsesUnsigned 128 b bs r → SomeIff (result_ok r) (IsDigitText b bs × (text_value b bs < 2 ^ 128)) (text_value b bs)
reads_text b bs (Ok x) plain h =
    let same : without_leading_plus bs ≡ bs = without_leading_plus_none bs plain in
    let k = rw same at h in
    let v : digits_value b bs ≡ text_value b bs = digits_value-text_value b bs in
    (((k.0.0.0, AllBelow-from_digits b bs k.0.0.1), omega (arith, v, k.0.1)), k.1 ∙ v)
reads_text b bs (Err e) plain h = λ p.
    let same : without_leading_plus bs ≡ bs = without_leading_plus_none bs plain in
    let k = rw same at h in
    let v : digits_value b bs ≡ text_value b bs = digits_value-text_value b bs in
    k ((p.0.0, digits_from-AllBelow b bs p.0.1), omega (arith, v, p.1))
