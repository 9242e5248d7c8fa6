-- The names of a template, segment by segment.
use Rattle.std.proofs.Common.{◌≡◌, ℕ, zero, suc, ◌+◌, ◌<◌, List, [], ◌∷◌, ◌++◌, length, drop, get_or, refl, arith, ap, ◌∙◌, sym, subst}
use Rattle.std.proofs.Common.{add-one}
use Rattle.std.proofs.Math.Seq.{drop-cons}
use Rattle.std.specs.Prelude.{◌↔◌, Contains}
use Rattle.formatx.specs.Templates.{segment_names}
use Rattle.formatx.specs.Inner.Parts.{names_in}
use Rattle.formatx.specs.declared.ast.Segment.{Segment}

pub Contains-head : (x : List ℕ) (xs : List (List ℕ)) → Contains (x ∷ xs) x
Contains-head x xs = (0, omega arith, refl)

pub Contains-tail : (x y : List ℕ) (xs : List (List ℕ)) → Contains xs x → Contains (y ∷ xs) x
Contains-tail x y xs h = (suc h.0, omega (arith, h.1), h.2)

pub Contains-other : (x y : List ℕ) (xs : List (List ℕ)) → ¬ (y ≡ x) → Contains (y ∷ xs) x → Contains xs x
Contains-other x y xs ne h = by_place h.0 h.1 h.2
  where
    by_place : (k : ℕ) → k < length (y ∷ xs) → get_or (y ∷ xs) k x ≡ x → Contains xs x
    by_place zero lt e = absurd (ne e)
    by_place (suc k) lt e = (k, omega arith, e)

-- the names from a segment on
names_in-drop : (source : List ℕ) (ss : List Segment) (i : ℕ) (d : Segment) → i < length ss → names_in source (drop i ss) ≡ segment_names source (get_or ss i d) ++ names_in source (drop (i + 1) ss)
names_in-drop source ss i d inside = rw (add-one, drop-cons ss i d) refl

-- a segment without a name
pub pass_unnamed : (source : List ℕ) (ss : List Segment) (i : ℕ) (d : Segment) (name : List ℕ) (A : Type 0) → i < length ss → segment_names source (get_or ss i d) ≡ [] → (Contains (names_in source (drop i ss)) name ↔ A) → (Contains (names_in source (drop (i + 1) ss)) name ↔ A)
pass_unnamed source ss i d name A inside none h =
    let same : names_in source (drop i ss) ≡ names_in source (drop (i + 1) ss) = names_in-drop source ss i d inside ∙ ap (λ (xs : List (List ℕ)). xs ++ names_in source (drop (i + 1) ss)) none in
    subst (λ (xs : List (List ℕ)). Contains xs name ↔ A) same h

-- a segment with another name
pub pass_other : (source : List ℕ) (ss : List Segment) (i : ℕ) (d : Segment) (name found : List ℕ) (A : Type 0) → i < length ss → segment_names source (get_or ss i d) ≡ found ∷ [] → ¬ (found ≡ name) → (Contains (names_in source (drop i ss)) name ↔ A) → (Contains (names_in source (drop (i + 1) ss)) name ↔ A)
pass_other source ss i d name found A inside one other h =
    let rest = names_in source (drop (i + 1) ss) in
    let same : names_in source (drop i ss) ≡ found ∷ rest = names_in-drop source ss i d inside ∙ ap (λ (xs : List (List ℕ)). xs ++ rest) one in
    let both : Contains (found ∷ rest) name ↔ A = subst (λ (xs : List (List ℕ)). Contains xs name ↔ A) same h in
    (λ c. both.0 (Contains-tail name found rest c), λ a. Contains-other name found rest other (both.1 a))

-- a segment with the name
pub found_name : (source : List ℕ) (ss : List Segment) (i : ℕ) (d : Segment) (name found : List ℕ) (A : Type 0) → i < length ss → segment_names source (get_or ss i d) ≡ found ∷ [] → found ≡ name → (Contains (names_in source (drop i ss)) name ↔ A) → A
found_name source ss i d name found A inside one equal h =
    let rest = names_in source (drop (i + 1) ss) in
    let same : names_in source (drop i ss) ≡ name ∷ rest = names_in-drop source ss i d inside ∙ ap (λ (xs : List (List ℕ)). xs ++ rest) (one ∙ ap (λ (x : List ℕ). x ∷ []) equal) in
    h.0 (subst (λ (xs : List (List ℕ)). Contains xs name) (sym same) (Contains-head name rest))
