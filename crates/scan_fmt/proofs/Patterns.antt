-- Where a pattern ends: at the first slash that no backslash stands before.
use Rattle.std.proofs.Common.{◌≡◌, ◌≢◌, ◌⊎◌, ◌==◌, ℕ, Bool, true, false, List, [], ◌∷◌, ◌++◌, length, sym, ap, subst, refl, inl, inr, ◌∙◌, arith}
use Rattle.std.proofs.lemmas.Bool.{cases_eq, cases_Bool}
use Rattle.scan_fmt.specs.Expressions.{IsUnbroken, IsDelimited}
use Rattle.scan_fmt.proofs.Spelled.{heads}

one_of_two : (b : Bool) → b ≡ true → b ≡ false → ⊥
one_of_two b at off = let bad : true ≡ false = sym at ∙ off in cc

joined : (x y : ℕ) (p q : List ℕ) → x ≡ y → p ≡ q → x ∷ p ≡ y ∷ q
joined x y p q head tail = cc

unbroken_one : (a : Bool) (p q r s : List ℕ) → IsUnbroken a p → IsUnbroken a q → p ++ 47 ∷ r ≡ q ++ 47 ∷ s → (p ≡ q) × (r ≡ s)
unbroken_one a [] [] r s h k e = (refl, (heads 47 47 r s e).1)
unbroken_one a [] (y ∷ q) r s h k e = absurd (one_of_two a (k.0 (sym (heads 47 y r (q ++ 47 ∷ s) e).0)) h)
unbroken_one a (x ∷ p) [] r s h k e = absurd (one_of_two a (h.0 (heads x 47 (p ++ 47 ∷ r) s e).0) k)
unbroken_one a (x ∷ p) (y ∷ q) r s h k e =
    let both = heads x y (p ++ 47 ∷ r) (q ++ 47 ∷ s) e in
    let rest = unbroken_one (x == 92) p q r s h.1 (subst (λ z. IsUnbroken (z == 92) q) (sym both.0) k.1) both.1 in
    (joined x y p q both.0 rest.0, rest.1)

-- a text begins with one pattern and its slash
pub pattern_one : (p q r s : List ℕ) → IsDelimited p → IsDelimited q → p ++ 47 ∷ r ≡ q ++ 47 ∷ s → (p ≡ q) × (r ≡ s)
pattern_one [] q r s h k e = absurd h
pattern_one (x ∷ p) [] r s h k e = absurd k
pattern_one (x ∷ p) (y ∷ q) r s h k e =
    let both = heads x y (p ++ 47 ∷ r) (q ++ 47 ∷ s) e in
    let rest = unbroken_one false p q r s h k both.1 in
    (joined x y p q both.0 rest.0, rest.1)

-- no closed pattern, where no brace follows the slash
pub pattern_open : (text p r : List ℕ) → text ≡ p ++ 47 ∷ r → IsDelimited p → ((rest : List ℕ) → r ≢ 125 ∷ rest) → (q rest : List ℕ) → text ≡ q ++ 47 ∷ 125 ∷ rest → IsDelimited q → ⊥
pattern_open text p r whole has none q rest e is = none rest (pattern_one p q r (125 ∷ rest) has is (sym whole ∙ e)).1

-- each slash stands behind a backslash; the flags tell whether one stands before the text, and whether one ends it
pub Runs : Bool → List ℕ → Bool → Type 0
Runs a [] b = a ≡ b
Runs a (c ∷ cs) b = (c ≡ 47 → a ≡ true) × Runs (c == 92) cs b

-- the front of a pattern; the flag tells whether a backslash ends it
pub Begins : Bool → List ℕ → Type 0
Begins b [] = ⊥
Begins b (c ∷ cs) = Runs false cs b

pub begins_first : (c : ℕ) → Begins false (c ∷ [])
unfolding Begins Runs
begins_first c = refl

runs_more : (a b : Bool) (cs : List ℕ) (c : ℕ) → (c ≡ 47 → b ≡ true) → Runs a cs b → Runs a (cs ++ c ∷ []) (c == 92)
unfolding Runs
runs_more a b [] c slash h = ((λ e. h ∙ slash e), refl)
runs_more a b (x ∷ cs) c slash h = (h.0, runs_more (x == 92) b cs c slash h.1)

pub begins_more : (b : Bool) (front : List ℕ) (c : ℕ) → (c ≡ 47 → b ≡ true) → Begins b front → Begins (c == 92) (front ++ c ∷ [])
unfolding Begins
begins_more b [] c slash h = absurd h
begins_more b (x ∷ front) c slash h = runs_more false b front c slash h

runs_closed : (a : Bool) (cs : List ℕ) → Runs a cs false → IsUnbroken a cs
unfolding Runs
runs_closed a [] h = h
runs_closed a (c ∷ cs) h = (h.0, runs_closed (c == 92) cs h.1)

-- where a slash follows no backslash, the front is a pattern
pub begins_closed : (front : List ℕ) → Begins false front → IsDelimited front
unfolding Begins
begins_closed [] h = absurd h
begins_closed (c ∷ cs) h = runs_closed false cs h

runs_none : (a b : Bool) (cs p r : List ℕ) → Runs a cs b → cs ≡ p ++ 47 ∷ r → IsUnbroken a p → ⊥
unfolding Runs
runs_none a b [] [] r h e is = absurd (omega (arith, ap length e))
runs_none a b [] (x ∷ p) r h e is = absurd (omega (arith, ap length e))
runs_none a b (y ∷ cs) [] r h e is = one_of_two a (h.0 (heads y 47 cs r e).0) is
runs_none a b (y ∷ cs) (x ∷ p) r h e is =
    let both = heads y x cs (p ++ 47 ∷ r) e in
    runs_none (y == 92) b cs p r h.1 both.1 (subst (λ z. IsUnbroken (z == 92) p) (sym both.0) is.1)

-- in such a front no pattern ends
pub begins_none : (b : Bool) (front p r : List ℕ) → Begins b front → front ≡ p ++ 47 ∷ r → IsDelimited p → ⊥
unfolding Begins
begins_none b front [] r h e is = is
begins_none b [] (x ∷ p) r h e is = h
begins_none b (y ∷ front) (x ∷ p) r h e is = runs_none false b front p r h (heads y x front (p ++ 47 ∷ r) e).1 is

-- a pattern and its slash in front, or none
Ended : Bool → List ℕ → Type 0
Ended a text = ((p : List ℕ) × (r : List ℕ) × (text ≡ p ++ 47 ∷ r) × IsUnbroken a p) ⊎ ((p r : List ℕ) → text ≡ p ++ 47 ∷ r → IsUnbroken a p → ⊥)

ended_later : (a : Bool) (x : ℕ) (xs : List ℕ) → (x ≡ 47 → a ≡ true) → Ended (x == 92) xs → Ended a (x ∷ xs)
unfolding Ended
ended_later a x xs slash (inl (p, r, e, h)) = inl (x ∷ p, r, ap (λ (t : List ℕ). x ∷ t) e, (slash, h))
ended_later a x xs slash (inr none) = inr refute where
  refute : (p r : List ℕ) → x ∷ xs ≡ p ++ 47 ∷ r → IsUnbroken a p → ⊥
  refute [] r e is = one_of_two a (slash (heads x 47 xs r e).0) is
  refute (y ∷ p) r e is =
      let both = heads x y xs (p ++ 47 ∷ r) e in
      none p r both.1 (subst (λ z. IsUnbroken (z == 92) p) (sym both.0) is.1)

ended : (a : Bool) (text : List ℕ) → Ended a text
unfolding Ended
ended a [] = inr nothing where
  nothing : (p r : List ℕ) → [] ≡ p ++ 47 ∷ r → IsUnbroken a p → ⊥
  nothing [] r e is = absurd (omega (arith, ap length e))
  nothing (y ∷ p) r e is = absurd (omega (arith, ap length e))
ended a (x ∷ xs) = elim (cases_eq x 47) [
  | inr other ↦ ended_later a x xs (λ e. absurd (other e)) (ended (x == 92) xs)
  | inl slash ↦ elim (cases_Bool a) [
    | inl escaped ↦ ended_later a x xs (λ e. escaped) (ended (x == 92) xs)
    | inr plain ↦ inl ([], xs, joined x 47 xs xs slash refl, plain)
  ]
]

-- the same of a whole pattern
abbrev pub Slashed : List ℕ → Type 0
Slashed text = ((p : List ℕ) × (r : List ℕ) × (text ≡ p ++ 47 ∷ r) × IsDelimited p) ⊎ ((p r : List ℕ) → text ≡ p ++ 47 ∷ r → IsDelimited p → ⊥)

pub slashed : (text : List ℕ) → Slashed text
unfolding Ended
slashed [] = inr nothing where
  nothing : (p r : List ℕ) → [] ≡ p ++ 47 ∷ r → IsDelimited p → ⊥
  nothing [] r e is = is
  nothing (y ∷ p) r e is = absurd (omega (arith, ap length e))
slashed (x ∷ xs) = elim (ended false xs) [
  | inl (p, r, e, h) ↦ inl (x ∷ p, r, ap (λ (t : List ℕ). x ∷ t) e, h)
  | inr none ↦ inr (refute none)
] where
  refute : ((p r : List ℕ) → xs ≡ p ++ 47 ∷ r → IsUnbroken false p → ⊥) → (p r : List ℕ) → x ∷ xs ≡ p ++ 47 ∷ r → IsDelimited p → ⊥
  refute none [] r e is = is
  refute none (y ∷ p) r e is = none p r (heads x y xs (p ++ 47 ∷ r) e).1 is
