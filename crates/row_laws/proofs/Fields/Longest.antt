-- Which fronts are the longest: a number before what it can't take, a number of its limit's length, a run of characters.
use Rattle.std.proofs.Common.{◌≡◌, ◌⊎◌, ◌<◌, ◌≤◌, ℕ, Bool, true, false, List, [], ◌∷◌, ◌++◌, length, Some, None, sym, ap, subst, refl, inl, inr, arith}
use Rattle.std.specs.List.{AllByRecursion}
use Rattle.std.specs.Char.{digit_value}
use Rattle.std.specs.Str.Parse.{AllDigits}
use Rattle.scan_fmt.specs.Grammar.{first, Run, Characters, Number, Decimal, Hexadecimal}
use Rattle.scan_fmt.specs.Scanned.{IsSigned, Optionally, Suits, MayTake, IsLongest}
use Rattle.scan_fmt.specs.Inner.Found.{IsPrefixed}
use Rattle.row_laws.specs.Inner.Directives.{limit_when}

-- a longer front of the same text has one more character
longer : (a r b s : List ℕ) → a ++ r ≡ b ++ s → length a < length b → (c : ℕ) × (more : List ℕ) × (b ≡ a ++ c ∷ more) × (first r ≡ Some c)
longer [] r [] s e h = absurd (omega arith)
longer [] r (c ∷ b) s e h = (c, b, refl, ap first e)
longer (x ∷ a) r [] s e h = absurd (omega arith)
longer (x ∷ a) r (y ∷ b) s e h =
    let head : x ≡ y = cc in
    let tail : a ++ r ≡ b ++ s = cc in
    let rest = longer a r b s tail (omega arith) in
    (rest.0, rest.1, (let same : b ≡ a ++ rest.0 ∷ rest.1 = rest.2 in cc), rest.3)

-- a front is the longest where no character of what follows can be added
longest_stops : (P : List ℕ → Type 0) (taken rest : List ℕ) → P taken → ((c : ℕ) (more : List ℕ) → first rest ≡ Some c → P (taken ++ c ∷ more) → ⊥) → IsLongest P (taken ++ rest) taken rest
longest_stops P taken rest has stops = record {
  whole = refl;
  shape = has;
  longest = λ other more e can.
      let low : ¬ (length taken < length other) = λ h.
      let parts = longer taken rest other more e h in
      stops parts.0 parts.1 parts.3 (subst P parts.2 can) in
      omega arith;
}

-- or where nothing longer is allowed
longest_full : (P : List ℕ → Type 0) (taken rest : List ℕ) → P taken → ((other : List ℕ) → P other → length other ≤ length taken) → IsLongest P (taken ++ rest) taken rest
longest_full P taken rest has most = record { whole = refl; shape = has; longest = λ other more e can. most other can }

each_at : (P : ℕ → Type 0) (c : ℕ) (xs more : List ℕ) → AllByRecursion P (xs ++ c ∷ more) → P c
each_at P c [] more h = h.0
each_at P c (x ∷ xs) more h = each_at P c xs more h.1

digit_at : (b c : ℕ) (xs more : List ℕ) → AllDigits b (xs ++ c ∷ more) → digit_value c < b
digit_at b c [] more h = h.0
digit_at b c (x ∷ xs) more h = digit_at b c xs more h.1

-- where one more character follows a decimal number, it is a digit
signed_more : (c : ℕ) (xs more : List ℕ) → 0 < length xs → IsSigned (xs ++ c ∷ more) → digit_value c < 10
signed_more c [] more some h = absurd (omega (arith, some))
signed_more c (x ∷ xs) more some h = digit_at 10 c xs more h.1

-- each character of a hexadecimal number is a digit or an `x`
IsHex : ℕ → Type 0
IsHex c = (digit_value c < 16) ⊎ (c ≡ 120)

hex_each : (ds : List ℕ) → AllDigits 16 ds → AllByRecursion IsHex ds
unfolding IsHex
hex_each [] h = tt
hex_each (d ∷ ds) h = (inl h.0, hex_each ds h.1)

x_each : (x ds : List ℕ) → Optionally 120 (λ t. t ≡ []) x → AllDigits 16 ds → AllByRecursion IsHex (x ++ ds)
unfolding IsHex
x_each [] ds h k = hex_each ds k
x_each (c ∷ cs) ds h k = (inr h.0, subst (λ (t : List ℕ). AllByRecursion IsHex (t ++ ds)) (sym h.1) (hex_each ds k))

prefixed_each : (zero x ds : List ℕ) → Optionally 48 (λ t. t ≡ []) zero → Optionally 120 (λ t. t ≡ []) x → AllDigits 16 ds → AllByRecursion IsHex (zero ++ (x ++ ds))
unfolding IsHex
prefixed_each [] x ds h k l = x_each x ds k l
prefixed_each (c ∷ cs) x ds h k l = (inl (subst (λ (d : ℕ). digit_value d < 16) (sym h.0) (omega arith)), subst (λ (t : List ℕ). AllByRecursion IsHex (t ++ (x ++ ds))) (sym h.1) (x_each x ds k l))

prefixed_more : (c : ℕ) (xs more : List ℕ) → IsPrefixed (xs ++ c ∷ more) → (digit_value c < 16) ⊎ (c ≡ 120)
unfolding IsHex
prefixed_more c xs more (zero, x, ds, e, h, k, l) = each_at IsHex c xs more (subst (AllByRecursion IsHex) (sym e) (prefixed_each zero x ds h k l))

-- nothing that follows is taken
abbrev pub EndsTaken : (ℕ → Type 0) → List ℕ → Type 0
EndsTaken P rest = (d : ℕ) → first rest ≡ Some d → P d → ⊥

pub decimal_longest : (exact : Bool) (n : ℕ) (taken rest : List ℕ) → 0 < length taken → IsSigned taken → (exact ≡ true → length taken ≡ n)
    → (exact ≡ true) ⊎ EndsTaken (λ d. digit_value d < 10) rest → IsLongest (MayTake (Number Decimal (limit_when exact n))) (taken ++ rest) taken rest
decimal_longest true n taken rest some is full ends =
    longest_full (MayTake (Number Decimal (Some n))) taken rest (is, omega (arith, full refl)) (λ other can. omega (arith, can.1, full refl))
decimal_longest false n taken rest some is full (inl bad) = absurd (cc)
decimal_longest false n taken rest some is full (inr ends) =
    longest_stops (MayTake (Number Decimal None)) taken rest (is, tt) (λ d more at can. ends d at (signed_more d taken more some can.0))

pub hexadecimal_longest : (exact : Bool) (n : ℕ) (taken rest : List ℕ) → IsPrefixed taken → (exact ≡ true → length taken ≡ n)
    → (exact ≡ true) ⊎ EndsTaken (λ d. (digit_value d < 16) ⊎ (d ≡ 120)) rest → IsLongest (MayTake (Number Hexadecimal (limit_when exact n))) (taken ++ rest) taken rest
hexadecimal_longest true n taken rest is full ends =
    longest_full (MayTake (Number Hexadecimal (Some n))) taken rest (is, omega (arith, full refl)) (λ other can. omega (arith, can.1, full refl))
hexadecimal_longest false n taken rest is full (inl bad) = absurd (cc)
hexadecimal_longest false n taken rest is full (inr ends) =
    longest_stops (MayTake (Number Hexadecimal None)) taken rest (is, tt) (λ d more at can. ends d at (prefixed_more d taken more can.0))

-- a run of characters up to one that doesn't suit it
pub run_longest : (run : Run) (taken rest : List ℕ) → AllByRecursion (Suits run) taken → EndsTaken (Suits run) rest → IsLongest (MayTake (Characters run)) (taken ++ rest) taken rest
run_longest run taken rest each ends = longest_stops (MayTake (Characters run)) taken rest each (λ d more at can. ends d at (each_at (Suits run) d taken more can))
