-- The bytes of a buffer from one place to another.
use Rattle.std.proofs.Common.{◌≡◌, ◌≤◌, ◌<◌, ◌+◌, ◌-◌, ◌==◌, ℕ, Bool, true, false, not, List, [], ◌∷◌, ◌++◌, length, take, drop, get_or, Some, None, refl, sym, ◌∙◌, ap, subst, arith, length-append, length-take, length-drop, if◌then◌else◌, replicate, inl, inr, ◌⊎◌, slice_range, take_all}
use Rattle.std.proofs.lemmas.List.{take-take, drop-take, drop-drop, take_more, take-append-le, take-append-drop, get_or-take, get_or-drop, get_or_default}
use Rattle.std.specs.List.{copy_within}
use Rattle.std.proofs.lemmas.List.Edits.{take-paste, length-paste}
use Rattle.std.proofs.lemmas.List.Elements.{All-append}
use Rattle.std.proofs.lemmas.Bool.{cases_lt}
use Rattle.std.proofs.lemmas.Bool.Decides.{nat_tests}
use Rattle.std.proofs.Math.Seq.{take-add, get_or-append_seam}
use Rattle.std.specs.Str.{IsUtf8, is_utf8, IsCharBoundary}
use Rattle.std.proofs.lemmas.Str.{IsUtf8-nil, IsUtf8-append, IsUtf8-take, IsUtf8-drop, IsCharBoundary-after_ascii, IsUtf8-from_is_utf8, is_utf8-from_IsUtf8}
use Rattle.memchr.specs.Find.{IsFirstByte, is_byte}
use Rattle.whiteread.specs.Lines.{HasNoFeed, IsWhole, IsFirstLine, line_feed}

-- ---- from one place to another

pub slice_len : (xs : List ℕ) (a b : ℕ) → b ≤ length xs → length (slice_range xs a b) ≡ b - a
slice_len xs a b le = simp (length-take, length-drop) (omega arith)

pub slice_none : (xs : List ℕ) (a b : ℕ) → b ≤ a → slice_range xs a b ≡ []
slice_none xs a b le = let none : b - a ≡ 0 = omega arith in ap (λ n. take n (drop a xs)) none

pub slice_rest : (xs : List ℕ) (a b k : ℕ) → a + k ≤ b → drop k (slice_range xs a b) ≡ slice_range xs (a + k) b
slice_rest xs a b k le =
    let more : b - a ≡ k + (b - (a + k)) = omega arith in
    ap (λ n. drop k (take n (drop a xs))) more ∙ drop-take k (b - (a + k)) (drop a xs) ∙ ap (take (b - (a + k))) (drop-drop k a xs)

pub slice_front : (xs : List ℕ) (a b k : ℕ) → a + k ≤ b → take k (slice_range xs a b) ≡ slice_range xs a (a + k)
slice_front xs a b k le =
    let same : k ≡ (a + k) - a = omega arith in
    take-take k (b - a) (drop a xs) (omega arith) ∙ ap (λ n. take n (drop a xs)) same

pub slice_join : (xs : List ℕ) (a b c : ℕ) → a ≤ b → b ≤ c → slice_range xs a c ≡ slice_range xs a b ++ slice_range xs b c
slice_join xs a b c first second =
    let at : a + (b - a) ≡ b = omega arith in
    sym (take-append-drop (b - a) (slice_range xs a c))
    ∙ ap (λ l. l ++ drop (b - a) (slice_range xs a c)) (slice_front xs a c (b - a) (omega arith) ∙ ap (slice_range xs a) at)
    ∙ ap (λ l. slice_range xs a b ++ l) (slice_rest xs a c (b - a) (omega arith) ∙ ap (λ n. slice_range xs n c) at)

-- what stands before a place is all that matters up to there
pub slice_same : (xs ys : List ℕ) (a b n : ℕ) → take n xs ≡ take n ys → b ≤ n → slice_range xs a b ≡ slice_range ys a b
slice_same xs ys a b n same le =
    cut xs ∙ ap (λ l. slice_range l a b) same ∙ sym (cut ys) where
      cut : (zs : List ℕ) → slice_range zs a b ≡ slice_range (take n zs) a b
      cut zs = by_order (cases_lt n a) where
        by_order : (n < a) ⊎ (a ≤ n) → slice_range zs a b ≡ slice_range (take n zs) a b
        by_order (inr below) =
            let split : n ≡ a + (n - a) = omega arith in
            let dropped : drop a (take n zs) ≡ take (n - a) (drop a zs) = ap (λ k. drop a (take k zs)) split ∙ drop-take a (n - a) zs in
            sym (take-take (b - a) (n - a) (drop a zs) (omega arith)) ∙ ap (take (b - a)) (sym dropped)
        by_order (inl past) = slice_none zs a b (omega arith) ∙ sym (slice_none (take n zs) a b (omega arith))

-- ---- line feeds

byte_is : (byte : ℕ) → (byte == line_feed) ≡ true → byte ≡ line_feed
byte_is byte h = grind (arith, nat_tests)

no_byte : (b : Bool) → (b ≡ true → ⊥) → not b ≡ true
no_byte true none = absurd (none refl)
no_byte false none = refl

-- none was found
pub none_found : (hay : List ℕ) → IsFirstByte (is_byte line_feed) hay None → HasNoFeed hay
none_found hay none = λ k d within.
    let here : get_or hay k d ≡ get_or hay k 0 = get_or_default hay k d 0 within in
    ap (λ x. not (x == line_feed)) here ∙ no_byte (get_or hay k 0 == line_feed) (none k (omega arith) within)

-- one was found, and none before it
pub record FoundAt (hay : List ℕ) (at : ℕ) : Type 0 where
  pub within : at < length hay
  pub none : HasNoFeed (take at hay)
  pub here : get_or hay at 0 ≡ line_feed

pub found_at : (hay : List ℕ) (at : ℕ) → IsFirstByte (is_byte line_feed) hay (Some at) → FoundAt hay at
found_at hay at found = record {
  within = found.0.high;
  none = λ k d within.
      let long : length (take at hay) ≡ at = simp length-take (let high = found.0.high in omega arith) in
      let below : k < at = omega arith in
      let here : get_or (take at hay) k d ≡ get_or hay k 0 = get_or-take at hay k d below ∙ get_or_default hay k d 0 (let high = found.0.high in omega arith) in
      ap (λ x. not (x == line_feed)) here ∙ no_byte (get_or hay k 0 == line_feed) (found.0.before k (omega arith) below);
  here = byte_is (get_or hay at 0) found.1;
}

no_feed_join : (xs ys : List ℕ) → HasNoFeed xs → HasNoFeed ys → HasNoFeed (xs ++ ys)
no_feed_join xs ys a b = All-append (λ x. not (x == line_feed) ≡ true) xs ys a b

-- the search went on past the bytes that were searched, and found none
pub no_feed_all : (xs : List ℕ) (n : ℕ) → HasNoFeed (take n xs) → HasNoFeed (drop n xs) → HasNoFeed xs
no_feed_all xs n front rest = subst HasNoFeed (take-append-drop n xs) (no_feed_join (take n xs) (drop n xs) front rest)

-- the search went on, and found one
pub found_on : (xs : List ℕ) (n at : ℕ) → HasNoFeed (take n xs) → FoundAt (drop n xs) at → FoundAt xs (n + at)
found_on xs n at front found = record {
  within = let inside : at < length xs - n = simp length-drop at found.within in omega arith;
  none = subst HasNoFeed (sym (take-add n at xs)) (no_feed_join (take n xs) (take at (drop n xs)) front found.none);
  here = sym (get_or-drop n xs at 0) ∙ found.here;
}

pub whole_found : (xs : List ℕ) (at : ℕ) → FoundAt xs at → (at + 1 ≤ length xs) × IsWhole (take (at + 1) xs)
whole_found xs at found =
    let within = found.within in
    (omega arith, (take at xs, take_more xs at 0 (omega arith) ∙ ap (λ b. take at xs ++ b ∷ []) found.here, found.none))

-- ---- text

-- a line within bytes that are text is text, and what follows it there too
pub record SplitsText (xs : List ℕ) (len text : ℕ) : Type 0 where
  pub line : IsUtf8 (take len xs)
  pub rest : is_utf8 (take (text - len) (drop len xs)) ≡ true

last_byte : (xs text : List ℕ) (len : ℕ) → len ≤ length xs → take len xs ≡ text ++ line_feed ∷ [] → (len ≡ length text + 1) × (get_or xs (length text) 0 ≡ line_feed)
last_byte xs text len within whole =
    let long : length (take len xs) ≡ len = simp length-take (omega arith) in
    let count : len ≡ length text + 1 = sym long ∙ ap length whole ∙ length-append text (line_feed ∷ []) in
    (count, sym (get_or-take len xs (length text) 0 (omega arith)) ∙ ap (λ l. get_or l (length text) 0) whole ∙ get_or-append_seam text line_feed [] 0)

pub splits_text : (xs : List ℕ) (len text : ℕ) → len ≤ length xs → text ≤ length xs → is_utf8 (take text xs) ≡ true → len ≤ text → IsFirstLine (take len xs) (drop len xs) → SplitsText xs len text
splits_text xs len text within text_within utf8 le (inl whole) =
    let all : IsUtf8 (take text xs) = IsUtf8-from_is_utf8 (take text xs) utf8 in
    let last = last_byte xs whole.0 len within whole.1 in
    let count : len ≡ length whole.0 + 1 = last.0 in
    let long : length (take text xs) ≡ text = simp length-take (omega arith) in
    let here : get_or (take text xs) (length whole.0) 0 ≡ line_feed = get_or-take text xs (length whole.0) 0 (omega arith) ∙ last.1 in
    let boundary = subst (IsCharBoundary (take text xs)) (sym count) (IsCharBoundary-after_ascii (take text xs) (length whole.0) all (omega arith) (omega (arith, here))) in
    let split : text ≡ len + (text - len) = omega arith in
    let rest : drop len (take text xs) ≡ take (text - len) (drop len xs) = ap (λ n. drop len (take n xs)) split ∙ drop-take len (text - len) xs in
    record {
      line = subst IsUtf8 (take-take len text xs le) (IsUtf8-take (take text xs) len all boundary);
      rest = is_utf8-from_IsUtf8 _ (subst IsUtf8 rest (IsUtf8-drop (take text xs) len all boundary));
    }
splits_text xs len text within text_within utf8 le (inr last) =
    let left : length xs - len ≡ 0 = sym (length-drop len xs) ∙ ap length last.1 in
    let same : text ≡ len = omega arith in
    let none : text - len ≡ 0 = omega arith in
    record {
      line = IsUtf8-from_is_utf8 (take len xs) (ap (λ n. is_utf8 (take n xs)) (sym same) ∙ utf8);
      rest = ap (λ n. is_utf8 (take n (drop len xs))) none ∙ is_utf8-from_IsUtf8 [] IsUtf8-nil;
    }

-- what is left of the text behind a line that was passed
pub text_behind : (xs : List ℕ) (len text : ℕ) → len ≤ length xs → text ≤ length xs → is_utf8 (take text xs) ≡ true → IsFirstLine (take len xs) (drop len xs) → is_utf8 (take (text - len) (drop len xs)) ≡ true
text_behind xs len text within text_within utf8 first = by_order (cases_lt text len) where
  by_order : (text < len) ⊎ (len ≤ text) → is_utf8 (take (text - len) (drop len xs)) ≡ true
  by_order (inr le) = (splits_text xs len text within text_within utf8 le first).rest
  by_order (inl past) = let none : text - len ≡ 0 = omega arith in ap (λ n. is_utf8 (take n (drop len xs))) none ∙ is_utf8-from_IsUtf8 [] IsUtf8-nil

-- text, and more of it
pub text_on : (xs : List ℕ) (n more : ℕ) → is_utf8 (take n xs) ≡ true → IsUtf8 (take more (drop n xs)) → is_utf8 (take (n + more) xs) ≡ true
text_on xs n more front rest =
    is_utf8-from_IsUtf8 (take (n + more) xs) (subst IsUtf8 (sym (take-add n more xs)) (IsUtf8-append (take n xs) (take more (drop n xs)) (IsUtf8-from_is_utf8 (take n xs) front) rest))

-- ---- a buffer that grew at its end

pub grown_front : (done : Bool) (xs : List ℕ) (room more n : ℕ) → length xs ≤ room → n ≤ length xs → take n (if done then take room xs ++ replicate more 0 else xs) ≡ take n xs
grown_front true xs room more n le within = ap (λ l. take n (l ++ replicate more 0)) (take_all room xs le) ∙ take-append-le n xs (replicate more 0) within
grown_front false xs room more n le within = refl

-- nothing is text
pub no_text : (xs : List ℕ) (a b : ℕ) → b ≤ a → is_utf8 (slice_range xs a b) ≡ true
no_text xs a b le = ap is_utf8 (slice_none xs a b le) ∙ is_utf8-from_IsUtf8 [] IsUtf8-nil

-- what comes in at the back leaves the front
pub front_kept : (xs : List ℕ) (start end end' k : ℕ) → start + k ≤ end → end ≤ end' → take k (slice_range xs start end') ≡ take k (slice_range xs start end)
front_kept xs start end end' k within le = slice_front xs start end' k (omega arith) ∙ sym (slice_front xs start end k within)

pub at_kept : (xs : List ℕ) (start end end' k : ℕ) → start + k < end → end ≤ end' → get_or (slice_range xs start end') k 0 ≡ get_or (slice_range xs start end) k 0
at_kept xs start end end' k within le =
    sym (get_or-take (k + 1) (slice_range xs start end') k 0 (omega arith))
    ∙ ap (λ l. get_or l k 0) (front_kept xs start end end' (k + 1) (omega arith) le)
    ∙ get_or-take (k + 1) (slice_range xs start end) k 0 (omega arith)

-- the bytes were moved to the front
pub moved : (xs : List ℕ) (i j : ℕ) → i ≤ j → j ≤ length xs → slice_range (copy_within xs i j 0) 0 (j - i) ≡ slice_range xs i j
moved xs i j order within =
    let all : (j - i) - 0 ≡ 0 + (j - i) = omega arith in
    let fits : j - i ≤ length (drop i xs) = simp length-drop (omega arith) in
    ap (λ n. take n (copy_within xs i j 0)) all ∙ take-paste xs 0 (drop i xs) (j - i) (omega arith) fits

pub moved_len : (xs : List ℕ) (i j : ℕ) → i ≤ j → j ≤ length xs → length (copy_within xs i j 0) ≡ length xs
moved_len xs i j order within = length-paste xs 0 (drop i xs) (j - i) (omega arith) (simp length-drop (omega arith))

-- a front that is the same is as long
pub front_within : (xs ys : List ℕ) (n : ℕ) → take n ys ≡ take n xs → n ≤ length xs → n ≤ length ys
front_within xs ys n same within = omega (arith, sym (length-take n ys) ∙ ap length same ∙ length-take n xs)

-- a buffer that was written through a slice of it all
pub written : (xs ys : List ℕ) (n : ℕ) → n ≡ length xs → length ys ≡ length xs → take n (ys ++ drop (length ys) xs) ≡ ys
written xs ys n long same = take-append-le n ys (drop (length ys) xs) (omega arith) ∙ take_all n ys (omega arith)
