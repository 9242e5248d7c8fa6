-- Numbers in decimal, and what stands behind them, come apart in one way.
use Rattle.std.proofs.Common.{◌≡◌, ◌<◌, ◌≤◌, ◌^◌, ◌+◌, ◌%◌, ℕ, List, [], ◌∷◌, ◌++◌, sym, subst, refl, arith}
use Rattle.std.specs.Fmt.{decimal}
use Rattle.std.specs.List.{AllByRecursion}
use Rattle.std.proofs.lemmas.Fmt.{decimal_by_steps, decimal_injective}

abbrev IsDigit : ℕ → Type 0
IsDigit byte = (48 ≤ byte) × (byte ≤ 57)

abbrev pub AllDigits : List ℕ → Type 0
AllDigits = AllByRecursion IsDigit

-- no digit stands in front
abbrev pub BeginsApart : List ℕ → Type 0
BeginsApart [] = Unit {0}
BeginsApart (byte ∷ bytes) = ¬ IsDigit byte

digits_push : (ds : List ℕ) (d : ℕ) → AllDigits ds → IsDigit d → AllDigits (ds ++ d ∷ [])
digits_push [] d all one = (one, tt)
digits_push (x ∷ ds) d all one = (all.0, digits_push ds d all.1 one)

digits-decimal : (n : ℕ) → n < 2 ^ 64 → AllDigits (decimal n)
digits-decimal = decimal_by_steps (λ n ds. AllDigits ds) (λ n small. ((omega arith, omega arith), tt)) (λ n ds some all. digits_push ds (48 + n % 10) all (omega arith, omega arith))

one_cut : (ds es xs ys : List ℕ) → AllDigits ds → AllDigits es → BeginsApart xs → BeginsApart ys → ds ++ xs ≡ es ++ ys → (ds ≡ es) × (xs ≡ ys)
one_cut [] [] xs ys a b p q e = (refl, e)
one_cut [] (d ∷ es) xs ys a b p q e = absurd (subst BeginsApart e p b.0)
one_cut (d ∷ ds) [] xs ys a b p q e = absurd (subst BeginsApart (sym e) q a.0)
one_cut (d ∷ ds) (f ∷ es) xs ys a b p q e =
    let head : d ≡ f = cc in
    let tail : ds ++ xs ≡ es ++ ys = cc in
    let rest = one_cut ds es xs ys a.1 b.1 p q tail in
    ((let same : ds ≡ es = rest.0 in cc), rest.1)

pub one_number : (m n : ℕ) (xs ys : List ℕ) → m < 2 ^ 64 → n < 2 ^ 64 → BeginsApart xs → BeginsApart ys → decimal m ++ xs ≡ decimal n ++ ys → (m ≡ n) × (xs ≡ ys)
one_number m n xs ys p q a b e =
    let cut = one_cut (decimal m) (decimal n) xs ys (digits-decimal m p) (digits-decimal n q) a b e in
    (decimal_injective m n p q cut.0, cut.1)
