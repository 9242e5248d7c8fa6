-- The front of a word that std cuts is the one of the definition.
use Rattle.std.proofs.Common.{◌≡◌, ℕ, zero, suc, ◌<◌, ◌≤◌, ◌⊎◌, inl, inr, Bool, true, false, cond, min, List, length, get_or, refl, sym, ◌∙◌, subst, arith, IsCharBoundary}
use Rattle.std.specs.Fmt.{is_char_start}
use Rattle.std.specs.Fmt.Cut.{floor_char_boundary}
use Rattle.std.proofs.lemmas.Bool.{cases_lt, true≢false}
use Rattle.std.proofs.lemmas.Bool.Decides.{nat_tests}
use Rattle.std.proofs.lemmas.Grind.{common_steps}
use Rattle.std.proofs.lemmas.List.{get_or_past}

start_boundary : (bs : List ℕ) (i : ℕ) → i ≤ length bs → is_char_start (get_or bs i 0) ≡ true → IsCharBoundary bs i
start_boundary bs i h e = (h, λ inside high. grind (arith, nat_tests, common_steps))

-- a place where a character begins
start_by : (bs : List ℕ) (i : ℕ) → (i < length bs) ⊎ (length bs ≤ i) → IsCharBoundary bs i → is_char_start (get_or bs i 0) ≡ true
start_by bs i (inl inside) b = let lead : 128 ≤ get_or bs i 0 → 192 ≤ get_or bs i 0 = b.1 inside in grind (arith, nat_tests, common_steps)
start_by bs i (inr past) b = rw (get_or_past bs i 0 past) refl

boundary_start : (bs : List ℕ) (i : ℕ) → IsCharBoundary bs i → is_char_start (get_or bs i 0) ≡ true
boundary_start bs i b = start_by bs i (cases_lt i (length bs)) b

at_top : (bs : List ℕ) (n m : ℕ) → (n < suc m) ⊎ (suc m ≤ n) → n ≤ suc m → IsCharBoundary bs (suc m) → ((k : ℕ) → n < k → k ≤ suc m → ¬ (IsCharBoundary bs k)) → suc m ≡ n
at_top bs n m (inl less) low b near = absurd (near (suc m) less (omega arith) b)
at_top bs n m (inr more) low b near = omega arith

not_top : (bs : List ℕ) (n m : ℕ) → (n < suc m) ⊎ (suc m ≤ n) → n ≤ suc m → is_char_start (get_or bs (suc m) 0) ≡ false → IsCharBoundary bs n → n ≤ m
not_top bs n m (inl less) low e b = omega arith
not_top bs n m (inr more) low e b =
    let same : n ≡ suc m = omega arith in
    let start : is_char_start (get_or bs (suc m) 0) ≡ true = boundary_start bs (suc m) (subst (λ k. IsCharBoundary bs k) same b) in
    absurd (true≢false (sym start ∙ e))

floor_by : (b : Bool) (bs : List ℕ) (n m : ℕ) → is_char_start (get_or bs (suc m) 0) ≡ b → suc m ≤ length bs → IsCharBoundary bs n → n ≤ suc m → ((k : ℕ) → n < k → k ≤ suc m → ¬ (IsCharBoundary bs k)) → (n ≤ m → floor_char_boundary bs m ≡ n) → cond b (suc m) (floor_char_boundary bs m) ≡ n
floor_by true bs n m e h b low near ih = at_top bs n m (cases_lt n (suc m)) low (start_boundary bs (suc m) h e) near
floor_by false bs n m e h b low near ih = ih (not_top bs n m (cases_lt n (suc m)) low e b)

floor_is : (bs : List ℕ) (n m : ℕ) → m ≤ length bs → IsCharBoundary bs n → n ≤ m → ((k : ℕ) → n < k → k ≤ m → ¬ (IsCharBoundary bs k)) → floor_char_boundary bs m ≡ n
unfolding floor_char_boundary
floor_is bs n zero h b low near = omega arith
floor_is bs n (suc m) h b low near = floor_by (is_char_start (get_or bs (suc m) 0)) bs n m refl h b low near (λ below. floor_is bs n m (omega arith) b below (λ k l u. near k l (omega arith)))

-- the place that std finds
pub cut_is : (bs : List ℕ) (n index : ℕ) → IsCharBoundary bs n → n ≤ index → ((k : ℕ) → n < k → k ≤ index → ¬ (IsCharBoundary bs k)) → floor_char_boundary bs (min index (length bs)) ≡ n
cut_is bs n index b low near =
    let inside : n ≤ length bs = b.0 in
    floor_is bs n (min index (length bs)) (omega arith) b (omega arith) (λ k l u. near k l (omega arith))
