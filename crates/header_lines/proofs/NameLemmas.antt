-- Lemmas on lists of names.
use Rattle.std.proofs.Common.{◌≡◌, ◌↔◌, Ordering, ◌++◌, ℕ, List, [], ◌∷◌, length, map, false, ap, sym, ◌∙◌, subst, bytes_eq}
use Rattle.std.specs.List.{AllByRecursion, IsDistinct}
use Rattle.std.specs.Ordering.{nat_cmp, eq_by_cmp, on}
use Rattle.std.specs.Cmp.{IsTotalOrder}
use Rattle.std.specs.Cmp.Lexicographic.{slice_cmp}
use Rattle.std.specs.Set.{distinct_count}
use Rattle.std.proofs.lemmas.Cmp.{nat_list_cmp_total, on_total, eq_by_cmp_equiv}
use Rattle.std.proofs.lemmas.List.{length-map}
use Rattle.std.proofs.lemmas.Map.Made.{IsDistinct-from_count, distinct_count-from_IsDistinct}
use Rattle.std.proofs.lemmas.Map.Text.{is_eq-slice_cmp}
use denote.Ref.{Bor}
use Rattle.header_lines.specs.Heading.{IsName}

-- words of which each is a name

pub named_here : (front : List (List ℕ)) (word : List ℕ) (more : List (List ℕ)) → AllByRecursion IsName (front ++ word ∷ more) → IsName word
named_here [] word more named = named.0
named_here (x ∷ front) word more named = named_here front word more named.1

pub named_more : (front : List (List ℕ)) (word : List ℕ) → AllByRecursion IsName front → IsName word → AllByRecursion IsName (front ++ word ∷ [])
named_more [] word named here = (here, tt)
named_more (x ∷ front) word named here = (named.0, named_more front word named.1 here)

-- texts that differ

-- the order of lent texts
abbrev pub text_cmp : Bor (List ℕ) → Bor (List ℕ) → Ordering
text_cmp = on (λ (text : Bor (List ℕ)). text.now) (slice_cmp nat_cmp)

pub text_cmp_total : IsTotalOrder text_cmp
text_cmp_total = on_total (λ text. text.now) nat_list_cmp_total

abbrev texts : List (Bor (List ℕ)) → List (List ℕ)
texts lent = map (λ text. text.now) lent

apart : (x : Bor (List ℕ)) (lent : List (Bor (List ℕ))) → AllByRecursion (λ y. eq_by_cmp text_cmp x y ≡ false) lent → AllByRecursion (λ y. bytes_eq x.now y ≡ false) (texts lent)
apart x [] h = tt
apart x (y ∷ lent) h = (sym (is_eq-slice_cmp x.now y.now) ∙ h.0, apart x lent h.1)

apart_by_cmp : (x : Bor (List ℕ)) (lent : List (Bor (List ℕ))) → AllByRecursion (λ y. bytes_eq x.now y ≡ false) (texts lent) → AllByRecursion (λ y. eq_by_cmp text_cmp x y ≡ false) lent
apart_by_cmp x [] h = tt
apart_by_cmp x (y ∷ lent) h = (is_eq-slice_cmp x.now y.now ∙ h.0, apart_by_cmp x lent h.1)

distinct : (lent : List (Bor (List ℕ))) → IsDistinct (eq_by_cmp text_cmp) lent → IsDistinct bytes_eq (texts lent)
unfolding IsDistinct
distinct [] h = tt
distinct (x ∷ lent) h = (apart x lent h.0, distinct lent h.1)

distinct_by_cmp : (lent : List (Bor (List ℕ))) → IsDistinct bytes_eq (texts lent) → IsDistinct (eq_by_cmp text_cmp) lent
unfolding IsDistinct
distinct_by_cmp [] h = tt
distinct_by_cmp (x ∷ lent) h = (apart_by_cmp x lent h.0, distinct_by_cmp lent h.1)

-- texts differ exactly where a set of them has as many
pub differ_by_count : (lent : List (Bor (List ℕ))) (names : List (List ℕ)) (count : ℕ) → map (λ text. text.now) lent ≡ names → count ≡ distinct_count (eq_by_cmp text_cmp) lent
    → (count ≡ length names) ↔ IsDistinct bytes_eq names
differ_by_count lent names count is counted =
    let long : length names ≡ length lent = sym (ap length is) ∙ length-map lent (λ (text : Bor (List ℕ)). text.now) in (
      λ same. subst (IsDistinct bytes_eq) is (distinct lent (IsDistinct-from_count (eq_by_cmp_equiv text_cmp_total) lent (sym counted ∙ same ∙ long))),
      λ differ. counted ∙ distinct_count-from_IsDistinct (eq_by_cmp_equiv text_cmp_total) lent (distinct_by_cmp lent (subst (IsDistinct bytes_eq) (sym is) differ)) ∙ sym long,
    )
