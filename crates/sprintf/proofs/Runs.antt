-- Longest runs at the front of a text.
use Rattle.std.proofs.Common.{◌≡◌, ◌≢◌, ℕ, zero, suc, ◌+◌, ◌<◌, ◌≤◌, Bool, true, false, cond, List, [], ◌∷◌, ◌++◌, length, take, get_or, refl, ap, arith, IsUtf8, IsCharBoundary, add-one, one-add, eqb}
use Rattle.std.specs.List.{prefix_len}
use Rattle.std.proofs.lemmas.Bool.Decides.{nat_tests}
use Rattle.std.proofs.lemmas.List.Sums.{prefix_len-le-length, prefix_len_passes}
use Rattle.std.proofs.lemmas.Str.{IsCharBoundary-start, IsCharBoundary-after_ascii}

-- behind ASCII characters a character begins
boundary_at : (p : ℕ → Bool) → ((c : ℕ) → p c ≡ true → c < 128) → (bs : List ℕ) → IsUtf8 bs → (n : ℕ) → n ≡ prefix_len p bs → IsCharBoundary bs n
boundary_at p low bs utf8 zero e = IsCharBoundary-start bs utf8
boundary_at p low bs utf8 (suc m) e =
    let within : prefix_len p bs ≤ length bs = prefix_len-le-length p bs in
    let here : p (get_or bs m 0) ≡ true = prefix_len_passes p bs m 0 (omega arith) in
    rw (← add-one m) (IsCharBoundary-after_ascii bs m utf8 (omega arith) (low (get_or bs m 0) here))

pub boundary_behind : (p : ℕ → Bool) → ((c : ℕ) → p c ≡ true → c < 128) → (bs : List ℕ) → IsUtf8 bs → IsCharBoundary bs (prefix_len p bs)
boundary_behind p low bs utf8 = boundary_at p low bs utf8 (prefix_len p bs) refl

-- a count that is not 0
pub counted : (b : Bool) (n m : ℕ) → cond b (1 + n) 0 ≡ suc m → (b ≡ true) × (n ≡ m)
counted true n m e = (refl, omega arith)
counted false n m e = absurd (omega arith)

-- a run ends where the text behind it begins with none of its characters
pub prefix_len-append : (p : ℕ → Bool) (xs ys : List ℕ) → prefix_len p xs ≡ length xs → prefix_len p ys ≡ 0 → prefix_len p (xs ++ ys) ≡ length xs
prefix_len-append p [] ys e f = f
prefix_len-append p (x ∷ xs) ys e f =
    let s : (p x ≡ true) × (prefix_len p xs ≡ length xs) = counted (p x) _ _ e in
    rw (s.0, prefix_len-append p xs ys s.1 f) (omega arith)

-- a run is all run
run_of : (p : ℕ → Bool) (b : Bool) (x : ℕ) (xs : List ℕ) → b ≡ p x → prefix_len p (take (prefix_len p xs) xs) ≡ length (take (prefix_len p xs) xs) → prefix_len p (take (cond b (1 + prefix_len p xs) 0) (x ∷ xs)) ≡ length (take (cond b (1 + prefix_len p xs) 0) (x ∷ xs))
run_of p true x xs e ih = rw (one-add (prefix_len p xs), ← e) (omega (arith, ih))
run_of p false x xs e ih = refl

pub prefix_len-take : (p : ℕ → Bool) (xs : List ℕ) → prefix_len p (take (prefix_len p xs) xs) ≡ length (take (prefix_len p xs) xs)
prefix_len-take p [] = refl
prefix_len-take p (x ∷ xs) = run_of p (p x) x xs refl (prefix_len-take p xs)

-- a text that does not begin with a character
pub differs : (c d : ℕ) (text : List ℕ) → ((rest : List ℕ) → c ∷ text ≢ d ∷ rest) → eqb d c ≡ false
differs c d text h = let other : c ≢ d = λ e. h text (ap (λ x. x ∷ text) e) in grind (arith, nat_tests)
