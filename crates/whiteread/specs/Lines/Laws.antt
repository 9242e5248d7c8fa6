-- A line that is handed out is the next of the input's lines: proved laws, for proofs to cite.
use Rattle.std.proofs.Common.{◌≡◌, ◌<◌, ◌++◌, ◌==◌, ℕ, false, not, List, [], ◌∷◌, length, get_or, ap, sym, subst, ◌∙◌, arith, refl, inl, inr, append_assoc, append-nil, length-append, rules}
use Rattle.std.specs.Prelude.{◌↔◌}
use Rattle.std.specs.Str.{IsUtf8}
use Rattle.std.proofs.lemmas.Str.{IsUtf8-append, IsUtf8-from_ascii, IsUtf8-take, IsCharBoundary-before_ascii}
use Rattle.std.proofs.lemmas.Bool.{cond-false, not-true}
use Rattle.std.proofs.Math.Seq.{take-append_seam}
use Rattle.whiteread.specs.Words.{onto_first}
use Rattle.whiteread.specs.Lines.{lines_of, line_feed, HasNoFeed, IsFirstLine, without_feed}
use Rattle.whiteread.specs.Inner.WordProofs.{pass-head, pass-tail}

-- A line stands in front of the bytes after it as the first of their lines, and it is UTF-8 with its line feed where it is without.
pub record BeginsLines (line after : List ℕ) : Type 0 where
  pub lines : lines_of (line ++ after) ≡ without_feed line ∷ lines_of after
  pub utf8 : IsUtf8 line ↔ IsUtf8 (without_feed line)

-- Each line as it stands in the input is the next of the input's lines.
abbrev pub HandsOutTheNext : Type 0
HandsOutTheNext = (line after : List ℕ) → IsFirstLine line after → BeginsLines line after

no_feed_head : (x : ℕ) (xs : List ℕ) → HasNoFeed (x ∷ xs) → (x == line_feed) ≡ false
no_feed_head x xs none = not-true (x == line_feed) (pass-head (λ byte. not (byte == line_feed)) x xs none)

no_feed_tail : (x : ℕ) (xs : List ℕ) → HasNoFeed (x ∷ xs) → HasNoFeed xs
no_feed_tail x xs none = pass-tail (λ byte. not (byte == line_feed)) x xs none

lines_other : (x : ℕ) (xs : List ℕ) → (x == line_feed) ≡ false → lines_of (x ∷ xs) ≡ onto_first x (lines_of xs)
lines_other x xs h = cond-false (x == line_feed) ([] ∷ lines_of xs) (onto_first x (lines_of xs)) h

pub lines_whole : (text after : List ℕ) → HasNoFeed text → lines_of (text ++ line_feed ∷ after) ≡ text ∷ lines_of after
lines_whole [] after none = refl
lines_whole (x ∷ text) after none =
    lines_other x (text ++ line_feed ∷ after) (no_feed_head x text none) ∙ ap (onto_first x) (lines_whole text after (no_feed_tail x text none))

pub lines_unended : (line : List ℕ) → 0 < length line → HasNoFeed line → lines_of line ≡ line ∷ []
lines_unended [] some none = absurd (omega (arith, some))
lines_unended (x ∷ []) some none = lines_other x [] (no_feed_head x [] none)
lines_unended (x ∷ y ∷ line) some none =
    lines_other x (y ∷ line) (no_feed_head x (y ∷ line) none) ∙ ap (onto_first x) (lines_unended (y ∷ line) (omega arith) (no_feed_tail x (y ∷ line) none))

pub feed_off : (text : List ℕ) → without_feed (text ++ line_feed ∷ []) ≡ text
feed_off [] = refl
feed_off (x ∷ []) = refl
feed_off (x ∷ y ∷ text) = ap (λ (l : List ℕ). x ∷ l) (feed_off (y ∷ text))

pub no_feed_off : (line : List ℕ) → HasNoFeed line → without_feed line ≡ line
no_feed_off [] none = refl
no_feed_off (x ∷ []) none = cond-false (x == line_feed) [] (x ∷ []) (no_feed_head x [] none)
no_feed_off (x ∷ y ∷ line) none = ap (λ (l : List ℕ). x ∷ l) (no_feed_off (y ∷ line) (no_feed_tail x (y ∷ line) none))

-- a text without the line feed after it
pub utf8_front : (text : List ℕ) → IsUtf8 (text ++ line_feed ∷ []) → IsUtf8 text
utf8_front text utf8 =
    let at : get_or (text ++ line_feed ∷ []) (length text) 0 ≡ line_feed = feed_at text in
    let boundary = IsCharBoundary-before_ascii (text ++ line_feed ∷ []) (length text) (omega (arith, length-append text (line_feed ∷ []))) (omega (arith, at)) in
    subst IsUtf8 (take-append_seam text (line_feed ∷ [])) (IsUtf8-take (text ++ line_feed ∷ []) (length text) utf8 boundary) where
      feed_at : (xs : List ℕ) → get_or (xs ++ line_feed ∷ []) (length xs) 0 ≡ line_feed
      feed_at [] = refl
      feed_at (x ∷ xs) = feed_at xs

pub first_line : HandsOutTheNext
first_line line after (inl whole) =
    let split : line ++ after ≡ whole.0 ++ line_feed ∷ after = ap (λ (t : List ℕ). t ++ after) whole.1 ∙ append_assoc whole.0 (line_feed ∷ []) after in
    let text : without_feed line ≡ whole.0 = ap without_feed whole.1 ∙ feed_off whole.0 in
    record {
      lines = ap lines_of split ∙ lines_whole whole.0 after whole.2 ∙ ap (λ (t : List ℕ). t ∷ lines_of after) (sym text);
      utf8 = (
        λ utf8. subst IsUtf8 (sym text) (utf8_front whole.0 (subst IsUtf8 whole.1 utf8)),
        λ utf8. subst IsUtf8 (sym whole.1) (IsUtf8-append whole.0 (line_feed ∷ []) (subst IsUtf8 text utf8) (IsUtf8-from_ascii (line_feed ∷ []) (search rules))),
      );
    }
first_line line after (inr last) =
    let all : line ++ after ≡ line = ap (λ (t : List ℕ). line ++ t) last.1 ∙ append-nil line in
    let text : without_feed line ≡ line = no_feed_off line last.0.1 in
    record {
      lines = ap lines_of all ∙ lines_unended line last.0.0 last.0.1 ∙ ap (λ (t : List ℕ). t ∷ []) (sym text) ∙ ap (λ (t : List ℕ). without_feed line ∷ lines_of t) (sym last.1);
      utf8 = (subst IsUtf8 (sym text), subst IsUtf8 text);
    }
