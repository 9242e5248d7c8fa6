-- The longest run of bytes that pass a test, as `position` finds its end, and the numbers that texts write.
use Rattle.std.proofs.Common.{◌≡◌, ℕ, suc, ◌+◌, ◌<◌, ◌≤◌, Bool, true, false, cond, not, ltb, List, [], ◌∷◌, length, zero, add-one, Option, Some, None, Result, Ok, Err, refl, arith, ap, sym, unwrap_or, ◌⊎◌, inl, inr}
use Rattle.std.specs.List.{prefix_len}
use Rattle.std.specs.Result.{result_ok}
use Rattle.std.proofs.lemmas.Bool.{cases_lt}
use Rattle.std.proofs.lemmas.Bool.Decides.{nat_tests}
use Rattle.std.specs.Str.{IsUtf8, IsCharBoundary, all_ascii_digits}
use Rattle.std.specs.Str.Parse.{AllDigits, ParsesUnsigned, without_leading_plus}
use Rattle.std.proofs.lemmas.Str.{IsCharBoundary-start, IsCharBoundary-end, IsCharBoundary-after_ascii, IsCharBoundary-before_ascii}
use Rattle.std.proofs.lemmas.List.Sums.{prefix_len_passes, prefix_len_stops, prefix_len-le-length}
use Rattle.formatx.specs.Words.{usize_of}

-- a run of what doesn't fail is a run of what passes
prefix_len-not_not : (p : ℕ → Bool) (xs : List ℕ) → prefix_len (λ x. not (not (p x))) xs ≡ prefix_len p xs
prefix_len-not_not p [] = refl
prefix_len-not_not p (x ∷ xs) =
    let ih = prefix_len-not_not p xs in
    elim (p x) as (λ b. cond (not (not b)) (1 + prefix_len (λ y. not (not (p y))) xs) 0 ≡ cond b (1 + prefix_len p xs) 0) [ true ↦ ap (λ n. 1 + n) ih | false ↦ refl ]

-- the first that fails stands where the run ends
pub run_from_position : (p : ℕ → Bool) (xs : List ℕ) (r : Option ℕ) → r ≡ cond (ltb (prefix_len (λ x. not (not (p x))) xs) (length xs)) (Some (prefix_len (λ x. not (not (p x))) xs)) None → unwrap_or r (length xs) ≡ prefix_len p xs
run_from_position p xs r e =
    let same = prefix_len-not_not p xs in
    let most = prefix_len-le-length p xs in
    grind (arith, nat_tests)

-- a run of ASCII ends between characters
pub run_boundary : (p : ℕ → Bool) (bs : List ℕ) → ((x : ℕ) → p x ≡ true → x < 128) → IsUtf8 bs → IsCharBoundary bs (prefix_len p bs)
run_boundary p bs ascii utf8 = by_len (prefix_len p bs) refl
  where
    by_len : (n : ℕ) → prefix_len p bs ≡ n → IsCharBoundary bs n
    by_len zero e = IsCharBoundary-start bs utf8
    by_len (suc n) e =
        let most = prefix_len-le-length p bs in
        let passes = prefix_len_passes p bs n 0 (omega arith) in
        rw (sym (add-one n)) (IsCharBoundary-after_ascii bs n utf8 (omega arith) (ascii _ passes))

-- a run that only ASCII ends, ends between characters
pub run_boundary_before : (p : ℕ → Bool) (bs : List ℕ) → ((x : ℕ) → p x ≡ false → x < 128) → IsCharBoundary bs (prefix_len p bs)
run_boundary_before p bs ascii = by_end (cases_lt (prefix_len p bs) (length bs))
  where
    by_end : (prefix_len p bs < length bs) ⊎ (length bs ≤ prefix_len p bs) → IsCharBoundary bs (prefix_len p bs)
    by_end (inl inside) = IsCharBoundary-before_ascii bs (prefix_len p bs) inside (ascii _ (prefix_len_stops p bs 0 inside))
    by_end (inr past) = let end : prefix_len p bs ≡ length bs = omega (arith, prefix_len-le-length p bs) in rw end (IsCharBoundary-end bs)

-- the tests of a text of digits
all_ascii_digits-true : (ds : List ℕ) → AllDigits 10 ds → all_ascii_digits ds ≡ true
all_ascii_digits-true [] h = refl
all_ascii_digits-true (d ∷ ds) h = let ih = all_ascii_digits-true ds h.1 in grind (arith, nat_tests)

AllDigits-from_test : (ds : List ℕ) → all_ascii_digits ds ≡ true → AllDigits 10 ds
AllDigits-from_test [] h = tt
AllDigits-from_test (d ∷ ds) h = let ih = AllDigits-from_test ds in grind (arith, nat_tests)

-- what `parse` reads as a `usize`
pub usize_of-parsed : {E : Type 0} (bs : List ℕ) (r : Result ℕ E) → ParsesUnsigned 64 10 bs r → result_ok r ≡ usize_of bs
usize_of-parsed bs (Ok n) h =
    let digits = all_ascii_digits-true (without_leading_plus bs) h.0.0.1 in
    grind (arith, nat_tests)
usize_of-parsed bs (Err e) h =
    let digits = AllDigits-from_test (without_leading_plus bs) in
    grind (arith, nat_tests)
