-- The longest front of a text: when it is one, that there is one only, and fronts joined.
use Rattle.std.proofs.Common.{◌≡◌, ◌<◌, ◌≤◌, ℕ, List, [], ◌∷◌, ◌++◌, length, take, drop, Some, inl, inr, sym, ap, subst, refl, ◌∙◌, arith, append_assoc, length-append}
use Rattle.std.proofs.lemmas.List.{take-append-drop}
use Rattle.std.proofs.lemmas.Bool.{cases_lt}
use Rattle.scan_fmt.specs.Grammar.{first}
use Rattle.scan_fmt.specs.Scanned.{IsLongest}

-- a longer front goes on with the character that follows the shorter one
pub longer : (a r b s : List ℕ) → a ++ r ≡ b ++ s → length a < length b → (c : ℕ) × (more : List ℕ) × (b ≡ a ++ c ∷ more) × (first r ≡ Some c)
longer [] r [] s e h = absurd (omega arith)
longer [] r (c ∷ b) s e h = (c, b, refl, ap first e)
longer (x ∷ a) r [] s e h = absurd (omega arith)
longer (x ∷ a) r (y ∷ b) s e h =
    let head : x ≡ y = cc in
    let tail : a ++ r ≡ b ++ s = cc in
    let rest = longer a r b s tail (omega arith) in
    (rest.0, rest.1, (let same : b ≡ a ++ rest.0 ∷ rest.1 = rest.2 in cc), rest.3)

pub same_parts : (a b r s : List ℕ) → length a ≡ length b → a ++ r ≡ b ++ s → (a ≡ b) × (r ≡ s)
same_parts [] [] r s l e = (refl, e)
same_parts [] (y ∷ b) r s l e = absurd (omega arith)
same_parts (x ∷ a) [] r s l e = absurd (omega arith)
same_parts (x ∷ a) (y ∷ b) r s l e =
    let head : x ≡ y = cc in
    let tail : a ++ r ≡ b ++ s = cc in
    let rest = same_parts a b r s (omega arith) tail in
    ((let same : a ≡ b = rest.0 in cc), rest.1)

-- a text has one longest front with a property
pub longest_one : (P : List ℕ → Type 0) (text a b r s : List ℕ) → IsLongest P text a r → IsLongest P text b s → (a ≡ b) × (r ≡ s)
longest_one P text a b r s one two =
    let low : length b ≤ length a = one.longest b s two.whole two.shape in
    let high : length a ≤ length b = two.longest a r one.whole one.shape in
    same_parts a b r s (omega arith) (sym one.whole ∙ two.whole)

-- a front is the longest where it can't go on with the character that follows
pub longest_stops : (P : List ℕ → Type 0) (text taken rest : List ℕ) → text ≡ taken ++ rest → P taken → ((c : ℕ) (more : List ℕ) → first rest ≡ Some c → P (taken ++ c ∷ more) → ⊥) → IsLongest P text taken rest
longest_stops P text taken rest whole has stops = record {
  whole = whole;
  shape = has;
  longest = λ other more e can.
      let low : ¬ (length taken < length other) = λ h.
      let parts = longer taken rest other more (sym whole ∙ e) h in
      stops parts.0 parts.1 parts.3 (subst P parts.2 can) in
      omega arith;
}

pub longest_stops_at : (P : List ℕ → Type 0) (text : List ℕ) (n : ℕ) → P (take n text) → ((c : ℕ) (more : List ℕ) → first (drop n text) ≡ Some c → P (take n text ++ c ∷ more) → ⊥) → IsLongest P text (take n text) (drop n text)
longest_stops_at P text n has stops = longest_stops P text (take n text) (drop n text) (sym (take-append-drop n text)) has stops

-- the same front under another property that the fronts of this text share
pub longest_same : (P Q : List ℕ → Type 0) (text a r : List ℕ) → IsLongest P text a r → Q a → ((other more : List ℕ) → text ≡ other ++ more → Q other → P other) → IsLongest Q text a r
longest_same P Q text a r long has back = record {
  whole = long.whole;
  shape = has;
  longest = λ other more e can. long.longest other more e (back other more e can);
}

-- one more character in front
pub longest_cons : (P Q : List ℕ → Type 0) (c : ℕ) (text a r : List ℕ) → IsLongest P text a r → Q (c ∷ a) → ((other : List ℕ) → Q (c ∷ other) → P other) → IsLongest Q (c ∷ text) (c ∷ a) r
longest_cons P Q c text a r long has back = record {
  whole = ap (λ (t : List ℕ). c ∷ t) long.whole;
  shape = has;
  longest = bound;
} where
  bound : (other more : List ℕ) → c ∷ text ≡ other ++ more → Q other → length other ≤ length (c ∷ a)
  bound [] more e can = omega arith
  bound (x ∷ other) more e can =
      let head : x ≡ c = cc in
      let tail : text ≡ other ++ more = cc in
      omega (arith, long.longest other more tail (back other (subst (λ y. Q (y ∷ other)) head can)))

-- two longest fronts, one after the other, where what the second begins with can't stand in the first
pub longest_then : (P Q R : List ℕ → Type 0) (text a r b s : List ℕ) → IsLongest P text a r → IsLongest Q r b s → R (a ++ b)
    → ((t : List ℕ) → R t → (p : List ℕ) × (q : List ℕ) × (t ≡ p ++ q) × P p × Q q) → ((p more q : List ℕ) (c : ℕ) → P (p ++ c ∷ more) → Q (c ∷ q) → ⊥) → IsLongest R text (a ++ b) s
longest_then P Q R text a r b s one two joined parts apart = record {
  whole = one.whole ∙ ap (λ (t : List ℕ). a ++ t) two.whole ∙ sym (append_assoc a b s);
  shape = joined;
  longest = λ other more e can.
      let cut = parts other can in
      bound other cut.0 cut.1 more cut.2 (e ∙ ap (λ (t : List ℕ). t ++ more) cut.2 ∙ append_assoc cut.0 cut.1 more) cut.3 cut.4;
} where
  short : (p q more : List ℕ) → text ≡ p ++ (q ++ more) → length p < length a → Q q → q ≡ []
  short p [] more e low qq = refl
  short p (x ∷ q) more e low qq =
      let there = longer p (x ∷ (q ++ more)) a r (sym e ∙ one.whole) low in
      let same : x ≡ there.0 = (let k : Some x ≡ Some there.0 = there.3 in cc) in
      absurd (apart p there.1 q there.0 (subst P there.2 one.shape) (subst (λ y. Q (y ∷ q)) same qq))

  bound : (other p q more : List ℕ) → other ≡ p ++ q → text ≡ p ++ (q ++ more) → P p → Q q → length other ≤ length (a ++ b)
  bound other p q more is e pp qq =
      let low : length p ≤ length a = one.longest p (q ++ more) e pp in
      elim (cases_lt (length p) (length a)) [
        | inl less ↦ (let none : q ≡ [] = short p q more e less qq in omega (arith, ap length is, length-append p q, length-append a b, ap length none))
        | inr most ↦ (let same = same_parts p a (q ++ more) r (omega arith) (sym e ∙ one.whole) in
            let high : length q ≤ length b = two.longest q more (sym same.1) qq in
            omega (arith, ap length is, length-append p q, length-append a b))
      ]
