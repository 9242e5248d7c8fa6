-- Spans of characters: which characters they have, and what putting them in order keeps.
use Rattle.std.proofs.Common.{◌≡◌, ◌≢◌, ◌<◌, ◌≤◌, ◌+◌, ◌-◌, ◌||◌, leb, ltb, leb-true, ltb-true, ℕ, Bool, true, false, List, [], ◌∷◌, ◌++◌, length, get_or, set, refl, sym, ap, ◌∙◌, inl, inr, arith}
use Rattle.std.specs.List.{AllAdjacentBelow, list_any}
use Rattle.std.specs.List.Sorted.{IsNonDecreasingBy, IsPartitionPoint}
use Rattle.std.proofs.lemmas.Bool.{cases_Bool, cases_eq, and_parts, leb-false, ltb-false}
use Rattle.std.proofs.lemmas.List.{get_or_default, length-set, get_or-set_same, get_or-set_other}
use Rattle.std.proofs.lemmas.List.Folds.{Any-from_list_any, list_any_at, list_any-append}
use Rattle.std.proofs.lemmas.List.Sorted.{IsNonDecreasingBy-from_all_adjacent, all_adjacent_more}
use Rattle.scan_fmt.specs.declared.set.Span.{Span}
use Rattle.scan_fmt.specs.Inner.Spans.{is_between, low_of, reach_of, is_covered, Rises}

leb_from : (a b : ℕ) → a ≤ b → leb a b ≡ true
leb_from a b h = elim (cases_Bool (leb a b)) [
  | inl e ↦ e
  | inr e ↦ absurd (omega (arith, h, leb-false a b e))
]

pub between_parts : (low reach c : ℕ) → is_between low reach c ≡ true → (low ≤ c) × (c ≤ reach)
between_parts low reach c h = let parts = and_parts (leb low c) (leb c reach) h in (leb-true low c parts.0, leb-true c reach parts.1)

pub between_from : (low reach c : ℕ) → low ≤ c → c ≤ reach → is_between low reach c ≡ true
between_from low reach c from to = rw (leb_from low c from, leb_from c reach to) refl

-- the place of a span that has the character
pub record Covers (xs : List Span) (c : ℕ) : Type 0 where
  pub k : ℕ
  pub d : Span
  pub within : k < length xs
  pub from : low_of (get_or xs k d) ≤ c
  pub to : c ≤ reach_of (get_or xs k d)

pub covers_from : (xs : List Span) (c : ℕ) → is_covered xs c ≡ true → Covers xs c
covers_from xs c h =
    let any = Any-from_list_any (λ (s : Span). is_between s.low s.reach c) xs h in
    let parts = between_parts (low_of any.1) (reach_of any.1) c any.4 in
    record { k = any.0; d = any.1; within = any.2; from = omega (arith, ap low_of any.3, parts.0); to = omega (arith, ap reach_of any.3, parts.1) }

pub covered_at : (xs : List Span) (c k : ℕ) (d : Span) → k < length xs → low_of (get_or xs k d) ≤ c → c ≤ reach_of (get_or xs k d) → is_covered xs c ≡ true
covered_at xs c k d within from to = list_any_at (λ (s : Span). is_between s.low s.reach c) xs k d within (between_from (low_of (get_or xs k d)) (reach_of (get_or xs k d)) c from to)

pub covered_none : (xs : List Span) (c : ℕ) → (Covers xs c → ⊥) → is_covered xs c ≡ false
covered_none xs c none = elim (cases_Bool (is_covered xs c)) [
  | inl e ↦ absurd (none (covers_from xs c e))
  | inr e ↦ e
]

pub covered_same : (xs ys : List Span) (c : ℕ) → (Covers ys c → is_covered xs c ≡ true) → (Covers xs c → is_covered ys c ≡ true) → is_covered ys c ≡ is_covered xs c
covered_same xs ys c back on = elim (cases_Bool (is_covered ys c)) [
  | inl e ↦ e ∙ sym (back (covers_from ys c e))
  | inr e ↦ e ∙ sym (covered_none xs c (λ there. let k : true ≡ false = sym (on there) ∙ e in cc))
]

-- the look-up among spans of which the first n begin at or before the character
pub looked_up : (xs : List Span) (c n : ℕ) (d : Span) → Rises xs → n ≤ length xs → IsPartitionPoint (λ (s : Span). leb s.low c ≡ true) (λ (s : Span). leb s.low c ≡ false) xs n → 0 < n → is_covered xs c ≡ leb c (reach_of (get_or xs (n - 1) d))
looked_up xs c n d rises within point some =
    let last = get_or xs (n - 1) d in
    elim (cases_Bool (leb c (reach_of last))) [
      | inl e ↦ covered_at xs c (n - 1) d (omega arith) (leb-true (low_of last) c (point.0 (n - 1) d (omega arith) (omega arith))) (leb-true c (reach_of last) e) ∙ sym e
      | inr e ↦ covered_none xs c (λ there. past there (leb-false c (reach_of last) e)) ∙ sym e
    ] where
      past : Covers xs c → reach_of (get_or xs (n - 1) d) < c → ⊥
      past there less = elim (cases_Bool (ltb there.k n)) [
        | inl e ↦ let before : there.k < n = ltb-true there.k n e in
            absurd (omega (arith, before, some, less, there.to, rises.reaches there.k (n - 1) there.d (omega arith) (omega arith), ap reach_of (get_or_default xs (n - 1) d there.d (omega arith))))
        | inr e ↦ let behind : n ≤ there.k = ltb-false there.k n e in
            absurd (omega (arith, there.from, leb-false (low_of (get_or xs there.k there.d)) c (point.1 there.k there.d behind there.within)))
      ]

pub looked_past : (xs : List Span) (c n : ℕ) → IsPartitionPoint (λ (s : Span). leb s.low c ≡ true) (λ (s : Span). leb s.low c ≡ false) xs n → n ≤ 0 → is_covered xs c ≡ false
looked_past xs c n point none = covered_none xs c (λ there. absurd (omega (arith, there.from, leb-false (low_of (get_or xs there.k there.d)) c (point.1 there.k there.d (omega arith) there.within))))

-- one span more
pub covered_more : (xs ys : List Span) (s : Span) → ys ≡ xs ++ s ∷ [] → (c : ℕ) → is_covered ys c ≡ (is_covered xs c || is_between s.low s.reach c)
covered_more xs ys s is c =
    let test = λ (s : Span). is_between s.low s.reach c in
    ap (λ (t : List Span). list_any test t) is ∙ list_any-append test xs (s ∷ []) ∙ ap (λ x. is_covered xs c || x) (or_none (test s)) where
      or_none : (x : Bool) → (x || false) ≡ x
      or_none true = refl
      or_none false = refl

-- the first n spans reach as far as those before them, and the spans have the characters that they had
pub record Raised (old xs : List Span) (n : ℕ) : Type 0 where
  pub lows : IsNonDecreasingBy low_of xs
  pub reaches : AllAdjacentBelow (λ (x y : Span). reach_of x ≤ reach_of y) xs n
  pub same : (c : ℕ) → is_covered xs c ≡ is_covered old c

pub raised_none : (old : List Span) → IsNonDecreasingBy low_of old → Raised old old 1
raised_none old lows = record { lows = lows; reaches = λ k d less. absurd (omega arith); same = λ c. refl }

pub raised_all : (old xs : List Span) (n : ℕ) → length xs ≤ n → Raised old xs n → Rises xs
raised_all old xs n long h = record { lows = h.lows; reaches = IsNonDecreasingBy-from_all_adjacent reach_of xs (λ k d less. h.reaches k d (omega arith)) }

-- the next span reaches far enough
pub raised_kept : (old xs : List Span) (n : ℕ) → 0 < n → ((d : Span) → reach_of (get_or xs (n - 1) d) ≤ reach_of (get_or xs n d)) → Raised old xs n → Raised old xs (n + 1)
raised_kept old xs n some far h = record { lows = h.lows; reaches = all_adjacent_more xs (λ (x y : Span). reach_of x ≤ reach_of y) n some h.reaches far; same = h.same }

-- ys is xs, but that the span at n reaches as far as the one before it
pub record Lifted (xs ys : List Span) (n : ℕ) : Type 0 where
  pub long : length ys ≡ length xs
  pub low : (d : Span) → low_of (get_or ys n d) ≡ low_of (get_or xs n d)
  pub reach : (d : Span) → reach_of (get_or ys n d) ≡ reach_of (get_or xs (n - 1) d)
  pub others : (k : ℕ) (d : Span) → k ≢ n → get_or ys k d ≡ get_or xs k d
  pub farther : (d : Span) → reach_of (get_or xs n d) < reach_of (get_or xs (n - 1) d)

pub lifted_set : (xs ys : List Span) (n : ℕ) (e : Span) → 0 < n → n < length xs → ys ≡ set xs n (record { low = low_of (get_or xs n e); reach = reach_of (get_or xs (n - 1) e) }) → reach_of (get_or xs n e) < reach_of (get_or xs (n - 1) e) → Lifted xs ys n
lifted_set xs ys n e some less is far =
    let new : Span = record { low = low_of (get_or xs n e); reach = reach_of (get_or xs (n - 1) e) } in
    record {
      long = ap (λ (t : List Span). length t) is ∙ length-set xs n new;
      low = λ d. ap (λ (t : List Span). low_of (get_or t n d)) is ∙ ap low_of (get_or-set_same xs n new d less) ∙ ap low_of (get_or_default xs n e d less);
      reach = λ d. ap (λ (t : List Span). reach_of (get_or t n d)) is ∙ ap reach_of (get_or-set_same xs n new d less) ∙ ap reach_of (get_or_default xs (n - 1) e d (omega arith));
      others = λ k d other. ap (λ (t : List Span). get_or t k d) is ∙ get_or-set_other xs n k new d other;
      farther = λ d. omega (arith, far, ap reach_of (get_or_default xs n e d less), ap reach_of (get_or_default xs (n - 1) e d (omega arith)));
    }

lows_same : (xs ys : List Span) (n k : ℕ) (d : Span) → Lifted xs ys n → low_of (get_or ys k d) ≡ low_of (get_or xs k d)
lows_same xs ys n k d lifted = elim (cases_eq k n) [
  | inl e ↦ rw e (lifted.low d)
  | inr other ↦ ap low_of (lifted.others k d other)
]

lifted_back : (xs ys : List Span) (n c : ℕ) → 0 < n → n < length xs → IsNonDecreasingBy low_of xs → Lifted xs ys n → Covers ys c → is_covered xs c ≡ true
lifted_back xs ys n c some less lows lifted there = elim (cases_eq there.k n) [
  | inl e ↦ covered_at xs c (n - 1) there.d (omega arith) (omega (arith, there.from, ap (λ k. low_of (get_or ys k there.d)) e, lifted.low there.d, lows (n - 1) n there.d (omega arith) less)) (omega (arith, there.to, ap (λ k. reach_of (get_or ys k there.d)) e, lifted.reach there.d))
  | inr other ↦ covered_at xs c there.k there.d (omega (arith, there.within, lifted.long)) (omega (arith, there.from, ap low_of (lifted.others there.k there.d other))) (omega (arith, there.to, ap reach_of (lifted.others there.k there.d other)))
]

lifted_on : (xs ys : List Span) (n c : ℕ) → Lifted xs ys n → Covers xs c → is_covered ys c ≡ true
lifted_on xs ys n c lifted there = covered_at ys c there.k there.d (omega (arith, there.within, lifted.long)) (omega (arith, there.from, lows_same xs ys n there.k there.d lifted)) (elim (cases_eq there.k n) [
  | inl e ↦ omega (arith, there.to, ap (λ k. reach_of (get_or xs k there.d)) e, ap (λ k. reach_of (get_or ys k there.d)) e, lifted.reach there.d, lifted.farther there.d)
  | inr other ↦ omega (arith, there.to, ap reach_of (lifted.others there.k there.d other))
])

pub raised_more : (old xs ys : List Span) (n : ℕ) → 0 < n → n < length xs → Lifted xs ys n → Raised old xs n → Raised old ys (n + 1)
raised_more old xs ys n some less lifted h = record {
  lows = λ i j d le within. omega (arith, h.lows i j d le (omega (arith, within, lifted.long)), lows_same xs ys n i d lifted, lows_same xs ys n j d lifted);
  reaches = reaches;
  same = λ c. covered_same xs ys c (lifted_back xs ys n c some less h.lows lifted) (lifted_on xs ys n c lifted) ∙ h.same c;
} where
  reaches : (k : ℕ) (d : Span) → k + 1 < n + 1 → reach_of (get_or ys k d) ≤ reach_of (get_or ys (k + 1) d)
  reaches k d under = elim (cases_eq (k + 1) n) [
    | inl e ↦ let at : k ≡ n - 1 = omega (arith, e) in
        omega (arith, ap reach_of (lifted.others k d (λ same. omega (arith, e, same))), ap (λ i. reach_of (get_or ys i d)) e, lifted.reach d, ap (λ i. reach_of (get_or xs i d)) at)
    | inr other ↦ omega (arith, ap reach_of (lifted.others k d (λ same. omega (arith, under, same))), ap reach_of (lifted.others (k + 1) d other), h.reaches k d (omega (arith, under, other)))
  ]
