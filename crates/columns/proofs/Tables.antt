-- What the tables of digits say of each byte.
use Rattle.std.proofs.Common.{◌≡◌, ◌<◌, ◌≤◌, ◌-◌, zero, suc, ℕ, Bool, true, false, cond, ◌&&◌, nat_lt, T, eqb, List, slice_index_or, inl, inr, subst, ⊎_elim, arith, eq-zero-or-pos, eqb→eq}
use Rattle.std.specs.Char.{digit_value}
use Rattle.std.proofs.lemmas.Bool.{cases_lt}
use Rattle.std.proofs.lemmas.Bool.Decides.{nat_tests}
use lib.Ieee.Fits.{and_l, and_r}
use Rattle.numerals.specs.Laws.{IsOfCase}
use Rattle.columns.specs.Inner.Shapes.{IsDigit}
use Rattle.columns.specs.declared.digit_tables.TheConstants.{LOWER, UPPER}

-- the value of a digit of the case, and 255 where the byte is none
abbrev pub told : Bool → ℕ → ℕ
told false c = cond (nat_lt c 48) 255 (cond (nat_lt c 58) (c - 48) (cond (nat_lt c 97) 255 (cond (nat_lt c 103) (c - 87) 255)))
told true c = cond (nat_lt c 48) 255 (cond (nat_lt c 58) (c - 48) (cond (nat_lt c 65) 255 (cond (nat_lt c 71) (c - 55) 255)))

abbrev agrees : Bool → List ℕ → ℕ → Bool
agrees upper table zero = true
agrees upper table (suc c) = eqb (slice_index_or table c 0) (told upper c) && agrees upper table c

entry : (upper : Bool) (table : List ℕ) (n c : ℕ) → T (agrees upper table n) → c < n → slice_index_or table c 0 ≡ told upper c
entry upper table zero c t h = absurd (omega arith)
entry upper table (suc n) c t h =
    elim (eq-zero-or-pos (n - c)) [
      | inl z ↦ let e : c ≡ n = omega arith in rw e (eqb→eq _ _ (and_l _ _ t))
      | inr g ↦ entry upper table n c (and_r _ (agrees upper table n) t) (omega arith)
    ]

lower_value : (c : ℕ) → told false c < 16 → digit_value c ≡ told false c
lower_value c h = grind (arith, nat_tests)

upper_value : (c : ℕ) → told true c < 16 → digit_value c ≡ told true c
upper_value c h = grind (arith, nat_tests)

high_letter : (c : ℕ) → told false c < 16 → 58 ≤ c → 90 < c
high_letter c h high = grind (arith, nat_tests)

low_letter : (c : ℕ) → told true c < 16 → c < 97
low_letter c h = grind (arith, nat_tests)

letter : (upper : Bool) (c : ℕ) → told upper c < 16 → IsOfCase upper c
letter false c h = ⊎_elim (λ (low : c < 58). inl (omega (arith, low))) (λ (high : 58 ≤ c). inr (high_letter c h high)) (cases_lt c 58)
letter true c h = inl (low_letter c h)

value : (upper : Bool) (c : ℕ) → told upper c < 16 → digit_value c ≡ told upper c
value false c h = lower_value c h
value true c h = upper_value c h

-- a byte that has a value as a digit of the case is such a digit
pub told_digit : (upper : Bool) (c : ℕ) → told upper c < 16 → IsDigit 16 upper c (told upper c)
told_digit upper c small = record { small = small; letter = letter upper c small; value = value upper c small }

digit_at : (upper : Bool) (table : List ℕ) (c i : ℕ) → T (agrees upper table 256) → i ≡ c → c < 256 → slice_index_or table i 0 < 16 → IsDigit 16 upper c (slice_index_or table i 0)
digit_at upper table c i all same byte small =
    let is : slice_index_or table i 0 ≡ told upper c = rw same (entry upper table 256 c all byte) in
    let less : told upper c < 16 = subst (λ k. k < 16) is small in
    record { small = small; letter = letter upper c less; value = rw is (value upper c less) }

pub lower_at : (c i : ℕ) → i ≡ c → c < 256 → slice_index_or LOWER i 0 < 16 → IsDigit 16 false c (slice_index_or LOWER i 0)
lower_at c i same byte small = digit_at false LOWER c i tt same byte small

pub upper_at : (c i : ℕ) → i ≡ c → c < 256 → slice_index_or UPPER i 0 < 16 → IsDigit 16 true c (slice_index_or UPPER i 0)
upper_at c i same byte small = digit_at true UPPER c i tt same byte small
