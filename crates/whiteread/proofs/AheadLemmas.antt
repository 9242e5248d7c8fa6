-- The words of the lines ahead, line by line.
use Rattle.std.proofs.Common.{◌≡◌, ◌<◌, ◌+◌, ◌==◌, ◌||◌, ℕ, true, false, cond, nat_le, List, [], ◌∷◌, ◌++◌, length, take, inl, inr, refl, sym, ◌∙◌, ap, arith, append_assoc, length-append}
use Rattle.std.specs.Prelude.{filter}
use Rattle.std.specs.Str.{IsUtf8, is_utf8}
use Rattle.std.proofs.lemmas.Grind.{common_steps}
use Rattle.std.proofs.lemmas.Bool.{leb-true, le-leb, cond-true, cond-false}
use Rattle.std.proofs.lemmas.Str.{is_utf8-from_IsUtf8}
use Rattle.std.proofs.Math.Seq.{take-append-add}
use Rattle.whiteread.specs.Words.{Words, words, pieces, onto_first, is_blank, is_filled}
use Rattle.whiteread.specs.Lines.Laws.{BeginsLines, first_line, feed_off, no_feed_off}
use Rattle.whiteread.specs.Lines.{lines_of, line_feed, up_to_last_feed, has_feed, HasNoFeed, IsFirstLine, without_feed}
use Rattle.whiteread.specs.Inner.WordProofs.{Test, pieces-blank}
use Rattle.whiteread.specs.Inner.ReaderProofs.{none_whole}
use Rattle.whiteread.specs.ReaderState.ReaderWords.{words_of_lines, whole_within}

-- ---- a blank at the end adds no word

some_piece : (blank : Test) (xs : List ℕ) → (piece : List ℕ) × (more : Words) × (pieces blank xs ≡ piece ∷ more)
some_piece blank [] = ([], [], refl)
some_piece blank (x ∷ xs) =
    let rest = some_piece blank xs in
    elim (blank x) as (λ b. (piece : List ℕ) × (more : Words) × (cond b ([] ∷ pieces blank xs) (onto_first x (pieces blank xs)) ≡ piece ∷ more)) [
      | true ↦ ([], pieces blank xs, refl)
      | false ↦ (x ∷ rest.0, rest.1, ap (onto_first x) rest.2)
    ]

onto_append : (x : ℕ) (all piece-is : Words) (piece : List ℕ) (more : Words) → all ≡ piece ∷ more → onto_first x (all ++ piece-is) ≡ onto_first x all ++ piece-is
onto_append x all last piece more is = ap (λ (w : Words). onto_first x (w ++ last)) is ∙ sym (ap (λ (w : Words). onto_first x w ++ last) is)

pieces_end : (blank : Test) (b : ℕ) (xs : List ℕ) → blank b ≡ true → pieces blank (xs ++ b ∷ []) ≡ pieces blank xs ++ [] ∷ []
pieces_end blank b [] h = pieces-blank blank b [] h
pieces_end blank b (x ∷ xs) h =
    let some = some_piece blank xs in
    elim (blank x) as (λ t. cond t ([] ∷ pieces blank (xs ++ b ∷ [])) (onto_first x (pieces blank (xs ++ b ∷ []))) ≡ cond t ([] ∷ pieces blank xs) (onto_first x (pieces blank xs)) ++ [] ∷ []) [
      | true ↦ ap (λ (w : Words). [] ∷ w) (pieces_end blank b xs h)
      | false ↦ ap (onto_first x) (pieces_end blank b xs h) ∙ onto_append x (pieces blank xs) ([] ∷ []) some.0 some.1 some.2
    ]

filled_end : (all : Words) → filter is_filled (all ++ [] ∷ []) ≡ filter is_filled all
filled_end [] = refl
filled_end ([] ∷ all) = filled_end all
filled_end ((x ∷ piece) ∷ all) = ap (λ (w : Words). (x ∷ piece) ∷ w) (filled_end all)

words_end : (text : List ℕ) → words (text ++ line_feed ∷ []) ≡ words text
unfolding words
words_end text = ap (filter is_filled) (pieces_end is_blank line_feed text refl) ∙ filled_end (pieces is_blank text)

-- ---- the first line

feed_in : (text rest : List ℕ) → has_feed (text ++ line_feed ∷ rest) ≡ true
feed_in [] rest = refl
feed_in (x ∷ text) rest = elim (x == line_feed) as (λ b. (b || has_feed (text ++ line_feed ∷ rest)) ≡ true) [ true ↦ refl | false ↦ feed_in text rest ]

up_whole : (text rest : List ℕ) → up_to_last_feed (text ++ line_feed ∷ rest) ≡ text ++ line_feed ∷ up_to_last_feed rest
up_whole [] rest = refl
up_whole (x ∷ text) rest =
    cond-true (has_feed (x ∷ (text ++ line_feed ∷ rest))) _ _ (feed_in (x ∷ text) rest) ∙ ap (λ (l : List ℕ). x ∷ l) (up_whole text rest)

words_of_first : (line : List ℕ) (lines : Words) → IsUtf8 line → words_of_lines (line ∷ lines) ≡ words line ++ words_of_lines lines
words_of_first line lines utf8 = cond-true (is_utf8 line) (words line ++ words_of_lines lines) [] (is_utf8-from_IsUtf8 line utf8)

-- a line has the words that it has without its line feed
words_without : (line after : List ℕ) → IsFirstLine line after → words (without_feed line) ≡ words line
words_without line after (inl whole) = ap words (ap without_feed whole.1 ∙ feed_off whole.0) ∙ sym (ap words whole.1 ∙ words_end whole.0)
words_without line after (inr last) = ap words (no_feed_off line last.0.1)

-- the first line's words stand in front of those of the lines after it
line_words : (line after : List ℕ) → IsUtf8 line → IsFirstLine line after → words_of_lines (lines_of (line ++ after)) ≡ words line ++ words_of_lines (lines_of after)
line_words line after utf8 first =
    let begins : BeginsLines line after = first_line line after first in
    ap words_of_lines begins.lines ∙ words_of_first (without_feed line) (lines_of after) (begins.utf8.0 utf8)
    ∙ ap (λ (w : Words). w ++ words_of_lines (lines_of after)) (words_without line after first)

-- ---- what is whole within the limit

not_le : (a b : ℕ) → nat_le a b ≡ false → b < a
not_le a b h = grind (arith, common_steps, h)

-- the line was cut off, and the same is whole as before
whole_cut : (room after : ℕ) (waiting got line left rest : List ℕ) → room ≡ length got + after → waiting ++ got ≡ line ++ left → IsFirstLine line left → (HasNoFeed line → rest ≡ [])
    → whole_within room waiting (got ++ rest) ≡ line ++ whole_within after left rest
whole_cut room after waiting got line left rest is cut first unended =
    elim (nat_le (length rest) after) as (λ b. nat_le (length rest) after ≡ b → whole_within room waiting (got ++ rest) ≡ line ++ cond b (left ++ rest) (up_to_last_feed (left ++ take after rest))) [
      | true ↦ λ h.
          cond-true (nat_le (length (got ++ rest)) room) _ _ (le-leb (length (got ++ rest)) room (omega (arith, length-append got rest, leb-true (length rest) after h)))
          ∙ sym (append_assoc waiting got rest) ∙ ap (λ (l : List ℕ). l ++ rest) cut ∙ append_assoc line left rest
      | false ↦ λ h.
          cond-false (nat_le (length (got ++ rest)) room) _ _ (le_false (length (got ++ rest)) room (omega (arith, length-append got rest, not_le (length rest) after h)))
          ∙ ap up_to_last_feed (taken ∙ sym (append_assoc waiting got (take after rest)) ∙ ap (λ (l : List ℕ). l ++ take after rest) cut ∙ append_assoc line left (take after rest))
          ∙ ended (not_le (length rest) after h) first
    ] refl where
      le_false : (a b : ℕ) → b < a → nat_le a b ≡ false
      le_false a b h = grind (arith, common_steps, h)

      taken : waiting ++ take room (got ++ rest) ≡ waiting ++ (got ++ take after rest)
      taken = ap (λ n. waiting ++ take n (got ++ rest)) is ∙ ap (λ (l : List ℕ). waiting ++ l) (take-append-add got rest after)

      ended : after < length rest → IsFirstLine line left → up_to_last_feed (line ++ (left ++ take after rest)) ≡ line ++ up_to_last_feed (left ++ take after rest)
      ended more (inl whole) =
          ap (λ (l : List ℕ). up_to_last_feed (l ++ (left ++ take after rest))) whole.1 ∙ ap up_to_last_feed (append_assoc whole.0 (line_feed ∷ []) (left ++ take after rest))
          ∙ up_whole whole.0 (left ++ take after rest) ∙ sym (append_assoc whole.0 (line_feed ∷ []) (up_to_last_feed (left ++ take after rest)))
          ∙ sym (ap (λ (l : List ℕ). l ++ up_to_last_feed (left ++ take after rest)) whole.1)
      ended more (inr last) = absurd (omega (arith, more, ap (λ (l : List ℕ). length l) (unended last.0.1)))

-- the words ahead are those of the line that was cut off, and those ahead of it
pub ahead_cut : (room after : ℕ) (waiting got line left rest : List ℕ) → room ≡ length got + after → waiting ++ got ≡ line ++ left → IsFirstLine line left → (HasNoFeed line → rest ≡ []) → IsUtf8 line
    → words_of_lines (lines_of (whole_within room waiting (got ++ rest))) ≡ words line ++ words_of_lines (lines_of (whole_within after left rest))
ahead_cut room after waiting got line left rest is cut first unended utf8 =
    ap (λ (l : List ℕ). words_of_lines (lines_of l)) (whole_cut room after waiting got line left rest is cut first unended) ∙ line_words line (whole_within after left rest) utf8 (still first) where
      still : IsFirstLine line left → IsFirstLine line (whole_within after left rest)
      still (inl whole) = inl whole
      still (inr last) = inr (last.0, ap (λ (l : List ℕ). whole_within after l rest) last.1 ∙ ap (λ (l : List ℕ). whole_within after [] l) (unended last.0.1) ∙ none_whole after)
