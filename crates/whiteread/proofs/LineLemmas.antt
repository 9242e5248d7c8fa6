-- Line feeds among bytes that wait.
use Rattle.std.proofs.Common.{◌≡◌, ◌≤◌, ◌<◌, ◌+◌, ℕ, Bool, true, not, min, ◌==◌, ⊎_elim, List, [], ◌∷◌, length, take, get_or, Option, Some, None, sym, ◌∙◌, ap, subst, arith, take_all, length-take, length-append, get_or-take}
use Rattle.std.specs.Prelude.{◌↔◌, IsTrue, MatchOption, is_some}
use Rattle.std.proofs.lemmas.Bool.{false≢true, cases_lt}
use Rattle.std.proofs.Math.Seq.{get_or-append_seam}
use Rattle.whiteread.specs.Lines.{HasNoFeed, IsWhole, line_feed}

abbrev is_feed : ℕ → Bool
is_feed byte = byte == line_feed

-- a front without a line feed, byte by byte
front_at : (xs : List ℕ) (n : ℕ) → HasNoFeed (take n xs) → (k d : ℕ) → k < n → k < length xs → not (is_feed (get_or xs k d)) ≡ true
front_at xs n front k d below within =
    ap (λ x. not (is_feed x)) (sym (get_or-take n xs k d below)) ∙ front k d (simp length-take (omega arith))

front_of : (xs : List ℕ) (n : ℕ) → ((k d : ℕ) → k < n → k < length xs → not (is_feed (get_or xs k d)) ≡ true) → HasNoFeed (take n xs)
front_of xs n each = λ k d lt.
    let small : k < min n (length xs) = simp length-take at lt in
    ap (λ x. not (is_feed x)) (get_or-take n xs k d (omega arith)) ∙ each k d (omega arith) (omega arith)

-- a whole line is longer than a front without a line feed
pub whole_longer : (xs : List ℕ) (len free : ℕ) → IsWhole (take len xs) → HasNoFeed (take free xs) → len ≤ length xs → free < len
whole_longer xs len free whole none within =
    let text = whole.0 in
    let long : length (take len xs) ≡ len = simp length-take (omega arith) in
    let count : length (take len xs) ≡ length text + 1 = ap length whole.1 ∙ length-append text (line_feed ∷ []) in
    let last : get_or xs (length text) 0 ≡ line_feed = sym (get_or-take len xs (length text) 0 (omega arith)) ∙ ap (λ l. get_or l (length text) 0) whole.1 ∙ get_or-append_seam text line_feed [] 0 in
    ⊎_elim (λ (lt : free < len). lt) (λ (le : len ≤ free).
    let kept : not (is_feed (get_or xs (length text) 0)) ≡ true = front_at xs free none (length text) 0 (omega arith) (omega arith) in
    absurd (false≢true (sym (ap (λ x. not (is_feed x)) last) ∙ kept))) (cases_lt free len)

-- a line waits exactly where one was found
pub waits_is : (xs : List ℕ) (found : Option ℕ) (waits : Bool) → waits ≡ is_some found → MatchOption found (HasNoFeed xs) (λ len. (len ≤ length xs) × IsWhole (take len xs)) → IsTrue waits ↔ (¬ HasNoFeed xs)
waits_is xs None waits is none = (λ true_. absurd (false≢true (sym is ∙ true_)), λ some. absurd (some none))
waits_is xs (Some len) waits is line = (λ _ none. more none, λ _. is) where
  more : HasNoFeed xs → ⊥
  more none =
      let all : take (length xs) xs ≡ xs = take_all (length xs) xs (omega arith) in
      let longer : length xs < len = whole_longer xs len (length xs) line.1 (subst HasNoFeed (sym all) none) line.0 in
      omega (arith, longer, line.0)
