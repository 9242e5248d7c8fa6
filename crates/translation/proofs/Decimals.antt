-- Decimal numerals as runs of digits, and how they are read again.
use Rattle.std.proofs.Common.{◌≡◌, ◌≢◌, ℕ, ◌+◌, ◌<◌, ◌^◌, Bool, true, false, List, [], ◌∷◌, ◌++◌, length, get_or, drop, take, map, Some, refl, ap, sym, ◌∙◌, subst, arith}
use Rattle.std.specs.Prelude.{nat_lt, slice_index}
use Rattle.std.specs.Char.{is_ascii_digit}
use Rattle.std.specs.Fmt.{decimal}
use Rattle.std.specs.Int.Digits.{digits_of}
use Rattle.std.specs.List.{prefix_len}
use Rattle.std.specs.Str.{all_ascii_digits}
use Rattle.std.specs.Str.Parse.{digits_value, without_leading_plus}
use Rattle.std.proofs.Math.Seq.{take-append_seam}
use Rattle.std.proofs.lemmas.Bool.Decides.{nat_tests}
use Rattle.std.proofs.lemmas.Fmt.{digits_decimal, digits_value-decimal, decimal-digits_of}
use Rattle.std.proofs.lemmas.Int.Digits.{first_digits_of}
use Rattle.std.proofs.lemmas.Str.Parse.{IsNumeralModel, numerals_by_value, tells_all_ascii_digits, without_leading_plus_none}
use Rattle.numerals.specs.Numeral.{numeral}
use Rattle.numerals.specs.Laws.{NumeralIsStd}
use Rattle.formatx.specs.Words.{after, usize_of}
use Rattle.translation.proofs.Numerals.{numeral_first}

own : IsNumeralModel (λ ds. all_ascii_digits ds ≡ true) (digits_value 10)
own = numerals_by_value (λ ds. all_ascii_digits ds ≡ true) tells_all_ascii_digits

-- the digits write the number, which fits an isize
pub record Writes (n : ℕ) (ds : List ℕ) : Type 0 where
  pub small : n < 2 ^ 63
  pub digits : all_ascii_digits ds ≡ true
  pub value : digits_value 10 ds ≡ n
  pub first : ℕ
  pub others : List ℕ
  pub is : ds ≡ first ∷ others
  pub leads : 0 < n → first ≢ 48

first_of : (ds : List ℕ) (first : ℕ) (others : List ℕ) → ds ≡ first ∷ others → get_or ds 0 0 ≡ first
first_of ds first others e = rw e refl

shifted : (ds : List ℕ) → 0 < get_or ds 0 0 → get_or (map (λ d. 48 + d) ds) 0 0 ≢ 48
shifted [] h = absurd (omega arith)
shifted (d ∷ ds) h = λ e. absurd (omega arith)

pub writes : NumeralIsStd → (n : ℕ) → n < 2 ^ 63 → Writes n (numeral 10 false n)
writes std n small =
    let fits : n < 2 ^ 64 = omega arith in
    let same : numeral 10 false n ≡ decimal n = std 10 n false (omega arith) fits in
    let f = numeral_first 10 n false in
    record {
      small = small;
      digits = rw same (digits_decimal own n fits);
      value = rw same (digits_value-decimal own n fits);
      first = f.first;
      others = f.others;
      is = f.is;
      leads = λ some.
          let shift = shifted (digits_of 10 n) (first_digits_of 10 n (omega arith) some) in
          let at : get_or (numeral 10 false n) 0 0 ≡ get_or (map (λ d. 48 + d) (digits_of 10 n)) 0 0 = ap (λ (t : List ℕ). get_or t 0 0) (same ∙ decimal-digits_of n some fits) in
          λ e. shift (sym at ∙ first_of _ f.first f.others f.is ∙ e);
    }

-- a digit in front
pub first_digit : (n : ℕ) (ds : List ℕ) → (w : Writes n ds) → is_ascii_digit w.first ≡ true
first_digit n ds w =
    let d : all_ascii_digits (w.first ∷ w.others) ≡ true = rw w.is at w.digits in
    grind (arith, nat_tests)

-- a run ends where the next byte doesn't pass
pub run_length : (p : ℕ → Bool) (xs rest : List ℕ) → ((x : ℕ) → is_ascii_digit x ≡ true → p x ≡ true) → all_ascii_digits xs ≡ true → p (slice_index rest 0) ≡ false → prefix_len p (xs ++ rest) ≡ length xs
run_length p [] [] h all stop = refl
run_length p [] (r ∷ rest) h all stop = rw stop refl
run_length p (x ∷ xs) rest h all stop =
    let here : is_ascii_digit x ≡ true = grind (arith, nat_tests) in
    let later : all_ascii_digits xs ≡ true = grind (arith, nat_tests) in
    let ih = run_length p xs rest h later stop in
    rw (h x here, ih) (omega arith)

drop-seam : (xs rest : List ℕ) → drop (length xs) (xs ++ rest) ≡ rest
drop-seam [] rest = refl
drop-seam (x ∷ xs) rest = drop-seam xs rest

pub run_after : (p : ℕ → Bool) (xs rest : List ℕ) → ((x : ℕ) → is_ascii_digit x ≡ true → p x ≡ true) → all_ascii_digits xs ≡ true → p (slice_index rest 0) ≡ false → after p (xs ++ rest) ≡ rest
run_after p xs rest h all stop = ap (λ (n : ℕ). drop n (xs ++ rest)) (run_length p xs rest h all stop) ∙ drop-seam xs rest

pub run_taken : (p : ℕ → Bool) (xs rest : List ℕ) → ((x : ℕ) → is_ascii_digit x ≡ true → p x ≡ true) → all_ascii_digits xs ≡ true → p (slice_index rest 0) ≡ false → take (prefix_len p (xs ++ rest)) (xs ++ rest) ≡ xs
run_taken p xs rest h all stop = ap (λ (n : ℕ). take n (xs ++ rest)) (run_length p xs rest h all stop) ∙ take-append_seam xs rest

pub lt_true : (a b : ℕ) → a < b → nat_lt a b ≡ true
lt_true a b h = grind (arith, nat_tests)

-- digits read to their number
pub reads_usize : (n : ℕ) (ds : List ℕ) → Writes n ds → usize_of ds ≡ Some n
reads_usize n ds w =
    let d = first_digit n ds w in
    let at : get_or ds 0 0 ≡ w.first = first_of ds w.first w.others w.is in
    let plain : without_leading_plus ds ≡ ds = without_leading_plus_none ds (λ e. let bad : is_ascii_digit 43 ≡ true = subst (λ (b : ℕ). is_ascii_digit b ≡ true) (sym at ∙ e) d in absurd cc) in
    let some : nat_lt 0 (length ds) ≡ true = lt_true 0 (length ds) (rw w.is (omega arith)) in
    let low : nat_lt n (2 ^ 64) ≡ true = lt_true n (2 ^ 64) (let small = w.small in omega arith) in
    rw (plain, some, w.digits, w.value, low) refl
