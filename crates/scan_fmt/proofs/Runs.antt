-- Numbers within their limits.
use Rattle.std.proofs.Common.{◌≡◌, ◌<◌, ◌≤◌, ◌-◌, ℕ, zero, suc, List, [], ◌∷◌, ◌++◌, length, take, drop, Option, Some, None, IfSome, MatchOption, sym, ap, subst, refl, ◌∙◌, arith, append_assoc, length-append, length-take}
use Rattle.std.specs.List.{AllByRecursion}
use Rattle.std.specs.Str.{chars, IsUtf8, IsCharBoundary}
use Rattle.std.proofs.lemmas.List.{take-append-drop, append_cancel_left}
use Rattle.scan_fmt.specs.Scanned.{IsLongest}
use Rattle.scan_fmt.proofs.Characters.{ascii_cut, ascii_longest}

-- at most so many characters
abbrev pub Within : Option ℕ → List ℕ → Type 0
Within limit text = IfSome limit (λ n. length text ≤ n)

-- the longest of the first n characters
pub limited : (S : List ℕ → Type 0) (n : ℕ) (text a r : List ℕ) → IsLongest S (take n text) a r → IsLongest (λ t. S t × Within (Some n) t) text a (r ++ drop n text)
limited S n text a r long = record {
  whole = sym (take-append-drop n text) ∙ ap (λ (u : List ℕ). u ++ drop n text) long.whole ∙ append_assoc a r (drop n text);
  shape = (long.shape, omega (arith, ap length long.whole, length-take n text, length-append a r));
  longest = λ other more e can. long.longest other (take (n - length other) more) (ap (take n) e ∙ take_into n other more can.1) can.0;
} where
  take_into : (n : ℕ) (other more : List ℕ) → length other ≤ n → take n (other ++ more) ≡ other ++ take (n - length other) more
  take_into n [] more h = let e : n ≡ n - 0 = omega arith in ap (λ m. take m more) e
  take_into zero (x ∷ other) more h = absurd (omega arith)
  take_into (suc n) (x ∷ other) more h = (let e : n - length other ≡ suc n - suc (length other) = omega arith in ap (λ (u : List ℕ). x ∷ u) (take_into n other more (omega arith) ∙ ap (λ m. other ++ take m more) e))

take_both : (n k : ℕ) (xs : List ℕ) → n ≤ k → take n (take k xs) ≡ take n xs
take_both zero k xs h = refl
take_both (suc n) zero xs h = absurd (omega arith)
take_both (suc n) (suc k) [] h = refl
take_both (suc n) (suc k) (x ∷ xs) h = ap (λ (t : List ℕ). x ∷ t) (take_both n k xs (omega arith))

-- a number within the bytes that its limit lets it reach over
pub window : (S : List ℕ → Type 0) (limit : Option ℕ) (bytes within : List ℕ) (n : ℕ) → MatchOption limit (within ≡ bytes) (λ k. within ≡ take k bytes) → n ≤ length within → IsLongest S within (take n within) (drop n within)
    → IsLongest (λ t. S t × Within limit t) bytes (take n bytes) (drop n bytes)
window S None bytes within n is fits long =
    let at : IsLongest S bytes (take n bytes) (drop n bytes) = subst (λ (w : List ℕ). IsLongest S w (take n w) (drop n w)) is long in
    record { whole = at.whole; shape = (at.shape, tt); longest = λ other more e can. at.longest other more e can.0 }
window S (Some k) bytes within n is fits long =
    let at : IsLongest S (take k bytes) (take n (take k bytes)) (drop n (take k bytes)) = subst (λ (w : List ℕ). IsLongest S w (take n w) (drop n w)) is long in
    let most : n ≤ k = omega (arith, fits, ap length is, length-take k bytes) in
    let front : take n (take k bytes) ≡ take n bytes = take_both n k bytes most in
    let whole = limited S k bytes (take n (take k bytes)) (drop n (take k bytes)) at in
    let moved : IsLongest (λ t. S t × Within (Some k) t) bytes (take n bytes) (drop n (take k bytes) ++ drop k bytes) = subst (λ (a : List ℕ). IsLongest (λ t. S t × Within (Some k) t) bytes a (drop n (take k bytes) ++ drop k bytes)) front whole in
    let rest : drop n (take k bytes) ++ drop k bytes ≡ drop n bytes = append_cancel_left (take n bytes) (drop n (take k bytes) ++ drop k bytes) (drop n bytes) (sym moved.whole ∙ sym (take-append-drop n bytes)) in
    subst (λ (r : List ℕ). IsLongest (λ t. S t × Within (Some k) t) bytes (take n bytes) r) rest moved

fits_whole : (limit : Option ℕ) (bytes within : List ℕ) (n : ℕ) → MatchOption limit (within ≡ bytes) (λ k. within ≡ take k bytes) → n ≤ length within → n ≤ length bytes
fits_whole None bytes within n is fits = omega (arith, ap length is)
fits_whole (Some k) bytes within n is fits = omega (arith, ap length is, length-take k bytes)

pub number_cut : (S : List ℕ → Type 0) (limit : Option ℕ) (bytes within : List ℕ) (n : ℕ) → ((t : List ℕ) → S t → AllByRecursion (λ c. c < 128) t) → IsUtf8 bytes → MatchOption limit (within ≡ bytes) (λ k. within ≡ take k bytes) → n ≤ length within
    → IsLongest S within (take n within) (drop n within) → IsCharBoundary bytes n
number_cut S limit bytes within n ascii utf8 is fits long =
    ascii_cut bytes n utf8 (fits_whole limit bytes within n is fits) (ascii (take n bytes) (window S limit bytes within n is fits long).shape.0)

pub number_taken : (S : List ℕ → Type 0) (limit : Option ℕ) (bytes within front rest : List ℕ) (n : ℕ) → ((t : List ℕ) → S t → AllByRecursion (λ c. c < 128) t) → IsUtf8 bytes → MatchOption limit (within ≡ bytes) (λ k. within ≡ take k bytes) → n ≤ length within
    → IsLongest S within (take n within) (drop n within) → front ≡ take n bytes → rest ≡ drop n bytes → IsLongest (λ t. S t × Within limit t) (chars bytes) (chars front) (chars rest)
number_taken S limit bytes within front rest n ascii utf8 is fits long f r =
    let whole = ascii_longest (λ t. S t × Within limit t) bytes (take n bytes) (drop n bytes) (λ t h. ascii t h.0) utf8 (window S limit bytes within n is fits long) in
    subst (λ (a : List ℕ). IsLongest (λ t. S t × Within limit t) (chars bytes) (chars a) (chars rest)) (sym f)
    (subst (λ (b : List ℕ). IsLongest (λ t. S t × Within limit t) (chars bytes) (chars (take n bytes)) (chars b)) (sym r) whole)
