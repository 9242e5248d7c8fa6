-- The table of a set, code by code, and its spans, range by range.
use Rattle.std.proofs.Common.{◌≡◌, ◌≢◌, ◌<◌, ◌≤◌, ◌+◌, ◌||◌, ◌==◌, ℕ, Bool, true, false, List, [], ◌∷◌, refl, sym, ap, ◌∙◌, inl, inr, arith}
use Rattle.std.proofs.lemmas.Bool.{cases_Bool, cases_eq, eqb-true, eq-eqb, ne_eqb}
use Rattle.scan_fmt.specs.Sets.{is_in_ranges}
use Rattle.scan_fmt.specs.Inner.Spans.{is_between}
use Rattle.scan_fmt.proofs.Spans.{between_parts, between_from}

-- the codes below n were judged: the table has those that pass the test, and none from n on
pub Judged : (ℕ → Bool) → (ℕ → Bool) → ℕ → Type 0
Judged table test n = ((b : ℕ) → b < n → table b ≡ test b) × ((b : ℕ) → n ≤ b → table b ≡ false)

pub judged_none : (table test : ℕ → Bool) → ((b : ℕ) → table b ≡ false) → Judged table test 0
unfolding Judged
judged_none table test none = ((λ b less. absurd (omega arith)), (λ b more. none b))

pub judged_in : (table new test : ℕ → Bool) (n : ℕ) → test n ≡ true → new n ≡ true → ((b : ℕ) → b ≢ n → new b ≡ table b) → Judged table test n → Judged new test (n + 1)
unfolding Judged
judged_in table new test n in_it added others h = (below, λ b more. others b (λ e. omega arith) ∙ h.1 b (omega arith)) where
  below : (b : ℕ) → b < n + 1 → new b ≡ test b
  below b less = elim (cases_eq b n) [
    | inl e ↦ rw e (added ∙ sym in_it)
    | inr other ↦ others b other ∙ h.0 b (omega (arith, other))
  ]

pub judged_out : (table test : ℕ → Bool) (n : ℕ) → test n ≡ false → Judged table test n → Judged table test (n + 1)
unfolding Judged
judged_out table test n out h = (below, λ b more. h.1 b (omega arith)) where
  below : (b : ℕ) → b < n + 1 → table b ≡ test b
  below b less = elim (cases_eq b n) [
    | inl e ↦ rw e (h.1 n (omega arith) ∙ sym out)
    | inr other ↦ h.0 b (omega (arith, other))
  ]

pub judged_all : (table test : ℕ → Bool) (n : ℕ) → Judged table test n → (b : ℕ) → b < n → table b ≡ test b
unfolding Judged
judged_all table test n h = h.0

or_none : (x : Bool) → (x || false) ≡ x
or_none true = refl
or_none false = refl

or_assoc : (x y z : Bool) → ((x || y) || z) ≡ (x || (y || z))
or_assoc true y z = refl
or_assoc false y z = refl

-- what a test and the ranges that are left list together
pub Lists : (ℕ → Bool) → List ℕ → (ℕ → Bool) → List ℕ → Type 0
Lists has left old ranges = (b : ℕ) → (has b || is_in_ranges left b) ≡ (old b || is_in_ranges ranges b)

pub lists_none : (old : ℕ → Bool) (ranges : List ℕ) → Lists old ranges old ranges
unfolding Lists
lists_none old ranges b = refl

pub lists_pair : (has new old : ℕ → Bool) (left ranges rest : List ℕ) (low high : ℕ) → left ≡ low ∷ 45 ∷ high ∷ rest → ((b : ℕ) → new b ≡ (has b || is_between low high b)) → Lists has left old ranges → Lists new rest old ranges
unfolding Lists
lists_pair has new old left ranges rest low high is grown h b =
    ap (λ x. x || is_in_ranges rest b) (grown b) ∙ or_assoc (has b) (is_between low high b) (is_in_ranges rest b) ∙ ap (λ (t : List ℕ). has b || is_in_ranges t b) (sym is) ∙ h b

single : (low b : ℕ) (more : List ℕ) → ((z : ℕ) (rest : List ℕ) → more ≡ 45 ∷ z ∷ rest → ⊥) → is_in_ranges (low ∷ more) b ≡ ((b == low) || is_in_ranges more b)
single low b [] none = refl
single low b (x ∷ []) none = refl
single low b (x ∷ z ∷ rest) none = elim (cases_Bool (x == 45)) [
  | inl e ↦ absurd (none z rest (ap (λ y. y ∷ z ∷ rest) (eqb-true x 45 e)))
  | inr e ↦ rw e refl
]

-- a range of one character
between_self : (a b : ℕ) → is_between a a b ≡ (b == a)
between_self a b = elim (cases_eq b a) [
  | inl e ↦ between_from a a b (omega (arith, e)) (omega (arith, e)) ∙ sym (eq-eqb b a e)
  | inr other ↦ elim (cases_Bool (is_between a a b)) [
    | inl both ↦ let parts = between_parts a a b both in absurd (other (omega (arith, parts.0, parts.1)))
    | inr e ↦ e ∙ sym (ne_eqb b a other)
  ]
]

pub lists_single : (has new old : ℕ → Bool) (left ranges rest : List ℕ) (low : ℕ) → left ≡ low ∷ rest → ((z : ℕ) (more : List ℕ) → rest ≡ 45 ∷ z ∷ more → ⊥) → ((b : ℕ) → new b ≡ (has b || is_between low low b)) → Lists has left old ranges → Lists new rest old ranges
unfolding Lists
lists_single has new old left ranges rest low is none grown h b =
    ap (λ x. x || is_in_ranges rest b) (grown b ∙ ap (λ x. has b || x) (between_self low b)) ∙ or_assoc (has b) (b == low) (is_in_ranges rest b) ∙ ap (λ x. has b || x) (sym (single low b rest none)) ∙ ap (λ (t : List ℕ). has b || is_in_ranges t b) (sym is) ∙ h b

pub lists_all : (has old : ℕ → Bool) (left ranges : List ℕ) → left ≡ [] → Lists has left old ranges → (b : ℕ) → has b ≡ (old b || is_in_ranges ranges b)
unfolding Lists
lists_all has old left ranges none h b = sym (or_none (has b)) ∙ ap (λ (t : List ℕ). has b || is_in_ranges t b) (sym none) ∙ h b
