-- Runs of a list: past a gap, at a run, and none where all is blank.
use Rattle.std.proofs.Common.{◌≡◌, ◌≤◌, ◌<◌, ℕ, suc, zero, true, false, not, List, [], ◌∷◌, ◌++◌, length, refl, sym, ◌∙◌, ap, subst, arith}
use Rattle.std.specs.Prelude.{filter}
use Rattle.std.specs.List.{AllPass}
use Rattle.std.proofs.lemmas.Bool.{cond-false, not-true}
use Rattle.whiteread.specs.Inner.WordProofs.{Test, pass-head, pass-tail, pass-cons, pass-nil, pieces-blank, runs-blank, runs-none}
use Rattle.whiteread.specs.Words.{Words, runs, pieces, onto_first, is_filled, EndsRun, AreLongestRuns}

abbrev not-blank : Test → Test
not-blank blank x = not (blank x)

pieces-word : (blank : Test) (x : ℕ) (xs : List ℕ) → blank x ≡ false → pieces blank (x ∷ xs) ≡ onto_first x (pieces blank xs)
pieces-word blank x xs h = cond-false (blank x) ([] ∷ pieces blank xs) (onto_first x (pieces blank xs)) h

-- a gap holds no run
pub runs-gap : (blank : Test) (gap xs : List ℕ) → AllPass blank gap → runs blank (gap ++ xs) ≡ runs blank xs
runs-gap blank [] xs all = refl
runs-gap blank (x ∷ gap) xs all = runs-blank blank x (gap ++ xs) (pass-head blank x gap all) ∙ runs-gap blank gap xs (pass-tail blank x gap all)

pieces-run : (blank : Test) (run rest : List ℕ) (more : Words) → AllPass (λ x. not (blank x)) run → pieces blank rest ≡ [] ∷ more → pieces blank (run ++ rest) ≡ run ∷ more
pieces-run blank [] rest more all h = h
pieces-run blank (x ∷ run) rest more all h =
    pieces-word blank x (run ++ rest) (not-true (blank x) (pass-head (not-blank blank) x run all))
    ∙ ap (onto_first x) (pieces-run blank run rest more (pass-tail (not-blank blank) x run all) h)

pieces-end : (blank : Test) (rest : List ℕ) → EndsRun blank rest → (more : Words) × (pieces blank rest ≡ [] ∷ more) × (filter is_filled more ≡ runs blank rest)
pieces-end blank [] h = ([], refl, refl)
pieces-end blank (x ∷ xs) h = (pieces blank xs, pieces-blank blank x xs h, sym (runs-blank blank x xs h))

-- a run that ends is the first
pub runs-run : (blank : Test) (run rest : List ℕ) → 0 < length run → AllPass (λ x. not (blank x)) run → EndsRun blank rest → runs blank (run ++ rest) ≡ run ∷ runs blank rest
runs-run blank [] rest some all ends = absurd (omega (arith, some))
runs-run blank (x ∷ run) rest some all ends =
    let end = pieces-end blank rest ends in
    ap (filter is_filled) (pieces-run blank (x ∷ run) rest end.0 all end.1) ∙ ap (λ w. (x ∷ run) ∷ w) end.2

-- there is only one list of longest runs
pub runs-only : (blank : Test) (xs : List ℕ) (all : Words) → AreLongestRuns blank xs all → all ≡ runs blank xs
runs-only blank xs [] are = sym (runs-none blank xs are)
runs-only blank xs (run ∷ more) (gap, rest, is, blanks, some, none, ends, are) =
    sym (ap (runs blank) is ∙ runs-gap blank gap (run ++ rest) blanks ∙ runs-run blank run rest some none ends ∙ ap (λ w. run ∷ w) (sym (runs-only blank rest more are)))

-- the first piece, and the runs after it
record First (blank : Test) (xs : List ℕ) : Type 0 where
  piece : List ℕ
  more : Words
  rest : List ℕ
  is : pieces blank xs ≡ piece ∷ more
  split : xs ≡ piece ++ rest
  none : AllPass (λ x. not (blank x)) piece
  ends : EndsRun blank rest
  later : filter is_filled more ≡ runs blank rest
  shorter : length rest ≤ length xs

first : (blank : Test) (xs : List ℕ) → First blank xs
first blank [] = record { piece = []; more = []; rest = []; is = refl; split = refl; none = pass-nil (not-blank blank); ends = tt; later = refl; shorter = omega arith }
first blank (x ∷ xs) =
    elim (blank x) as (λ b. blank x ≡ b → First blank (x ∷ xs)) [
      | true ↦ λ h. record {
        piece = [];
        more = pieces blank xs;
        rest = x ∷ xs;
        is = pieces-blank blank x xs h;
        split = refl;
        none = pass-nil (not-blank blank);
        ends = h;
        later = sym (runs-blank blank x xs h);
        shorter = omega arith;
      }
      | false ↦ λ h. let f : First blank xs = first blank xs in record {
        piece = x ∷ f.piece;
        more = f.more;
        rest = f.rest;
        is = pieces-word blank x xs h ∙ ap (onto_first x) f.is;
        split = ap (λ l. x ∷ l) f.split;
        none = pass-cons (not-blank blank) x f.piece (ap not h) f.none;
        ends = f.ends;
        later = f.later;
        shorter = omega (arith, f.shorter);
      }
    ] refl

wider : (blank : Test) (x : ℕ) (xs : List ℕ) (all : Words) → blank x ≡ true → AreLongestRuns blank xs all → AreLongestRuns blank (x ∷ xs) all
wider blank x xs [] h are = pass-cons blank x xs h are
wider blank x xs (run ∷ more) h (gap, rest, is, blanks, some, none, ends, are) =
    (x ∷ gap, rest, ap (λ l. x ∷ l) is, pass-cons blank x gap h blanks, some, none, ends, are)

runs-are-within : (blank : Test) (n : ℕ) (xs : List ℕ) → length xs ≤ n → AreLongestRuns blank xs (runs blank xs)
runs-are-within blank n [] small = pass-nil blank
runs-are-within blank zero (x ∷ xs) small = absurd (omega (arith, small))
runs-are-within blank (suc n) (x ∷ xs) small =
    elim (blank x) as (λ b. blank x ≡ b → AreLongestRuns blank (x ∷ xs) (runs blank (x ∷ xs))) [
      | true ↦ λ h. subst (AreLongestRuns blank (x ∷ xs)) (sym (runs-blank blank x xs h)) (wider blank x xs (runs blank xs) h (runs-are-within blank n xs (omega (arith, small))))
      | false ↦ λ h.
          let f : First blank xs = first blank xs in
          let is : runs blank (x ∷ xs) ≡ (x ∷ f.piece) ∷ runs blank f.rest =
          ap (filter is_filled) (pieces-word blank x xs h ∙ ap (onto_first x) f.is) ∙ ap (λ w. (x ∷ f.piece) ∷ w) f.later in
          subst (AreLongestRuns blank (x ∷ xs)) (sym is)
          ([], f.rest, ap (λ l. x ∷ l) f.split, pass-nil blank, omega arith, pass-cons (not-blank blank) x f.piece (ap not h) f.none, f.ends, runs-are-within blank n f.rest (omega (arith, small, f.shorter)))
    ] refl

-- the runs are the longest runs
pub runs-are : (blank : Test) (xs : List ℕ) → AreLongestRuns blank xs (runs blank xs)
runs-are blank xs = runs-are-within blank (length xs) xs (omega arith)
