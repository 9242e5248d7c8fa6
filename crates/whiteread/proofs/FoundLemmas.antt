-- Where the first word from a place on stands.
use Rattle.std.proofs.Common.{◌≡◌, ◌≤◌, ◌<◌, ◌+◌, ◌-◌, ℕ, Bool, true, false, not, List, [], ◌∷◌, ◌++◌, length, drop, drop_of_length-le, take, take_all, get_or, refl, sym, ◌∙◌, ap, subst, arith, None, slice_range}
use Rattle.std.specs.List.{AllPass, take_while}
use Rattle.std.specs.Str.{IsUtf8, IsCharBoundary}
use Rattle.std.proofs.lemmas.Bool.{cond-true, cond-false, leb-true}
use Rattle.std.proofs.lemmas.List.{drop-drop, length-append, length-drop, get_or-drop}
use Rattle.std.proofs.lemmas.List.Sums.{take_while-cons}
use Rattle.std.proofs.lemmas.Str.{IsUtf8-drop, IsUtf8-past_char, encode_ascii, IsCharBoundary-from_drop, IsCharBoundary-end, IsCharBoundary-before_ascii}
use Rattle.std.proofs.Math.Seq.{drop-append_seam, take-append_seam}
use Rattle.whiteread.specs.Words.{words, is_blank, EndsRun}
use Rattle.whiteread.specs.Words.Found.{FindsWord, NextWord}
use Rattle.whiteread.specs.Inner.WordProofs.{Test, pass-head, pass-tail, pass-cons, pass-nil}
use Rattle.whiteread.proofs.WordLemmas.{runs-gap, runs-run}

-- the longest front that passes, and what follows it
pub record Front (p : Test) (xs : List ℕ) : Type 0 where
  pub front : List ℕ
  pub rest : List ℕ
  pub split : xs ≡ front ++ rest
  pub passes : AllPass p front
  pub ends : EndsRun (λ x. not (p x)) rest
  pub is : take_while p xs ≡ front

pub front_of : (p : Test) (xs : List ℕ) → Front p xs
front_of p [] = record { front = []; rest = []; split = refl; passes = pass-nil p; ends = tt; is = refl }
front_of p (x ∷ xs) =
    elim (p x) as (λ b. p x ≡ b → Front p (x ∷ xs)) [
      | true ↦ λ h. let f : Front p xs = front_of p xs in record {
        front = x ∷ f.front;
        rest = f.rest;
        split = ap (λ l. x ∷ l) f.split;
        passes = pass-cons p x f.front h f.passes;
        ends = f.ends;
        is = take_while-cons p x xs ∙ cond-true (p x) _ _ h ∙ ap (λ l. x ∷ l) f.is;
      }
      | false ↦ λ h. record {
        front = [];
        rest = x ∷ xs;
        split = refl;
        passes = pass-nil p;
        ends = ap not h;
        is = take_while-cons p x xs ∙ cond-false (p x) _ _ h;
      }
    ] refl

-- text is left after blanks
past_blanks : (gap ys : List ℕ) → IsUtf8 (gap ++ ys) → AllPass is_blank gap → IsUtf8 ys
past_blanks [] ys utf8 blanks = utf8
past_blanks (b ∷ gap) ys utf8 blanks =
    let small : b ≤ 32 = leb-true b 32 (pass-head is_blank b gap blanks) in
    let split : (b ∷ gap) ++ ys ≡ _ = ap (λ c. c ++ (gap ++ ys)) (sym (encode_ascii b (omega arith))) in
    past_blanks gap ys (IsUtf8-past_char ((b ∷ gap) ++ ys) (gap ++ ys) b utf8 split) (pass-tail is_blank b gap blanks)

abbrev pub word_byte : Test
word_byte x = not (is_blank x)

ends_twice : (rest : List ℕ) → EndsRun (λ x. not (word_byte x)) rest → EndsRun is_blank rest
ends_twice [] ends = tt
ends_twice (x ∷ rest) ends = twice (is_blank x) ends where
  twice : (b : Bool) → not (not b) ≡ true → b ≡ true
  twice true h = refl
  twice false h = h

starts_blank : (rest : List ℕ) → EndsRun is_blank rest → 0 < length rest → get_or rest 0 0 ≤ 32
starts_blank [] ends some = absurd (omega (arith, some))
starts_blank (x ∷ rest) ends some = leb-true x 32 ends

no_word : (ys : List ℕ) (run rest : List ℕ) → ys ≡ run ++ rest → EndsRun (λ x. not (is_blank x)) ys → EndsRun (λ x. not (word_byte x)) rest → length run ≡ 0 → ys ≡ []
no_word [] run rest split begins ends none = refl
no_word (y ∷ ys) [] rest split begins ends none = absurd (clash (is_blank y) begins (subst (EndsRun (λ x. not (word_byte x))) (sym split) ends)) where
  clash : (b : Bool) → not b ≡ true → not (not b) ≡ true → ⊥
  clash true p q = cc
  clash false p q = cc
no_word (y ∷ ys) (x ∷ run) rest split begins ends none = absurd (omega (arith, none))

end_boundary : (text : List ℕ) (end : ℕ) (rest : List ℕ) → length text ≡ end + length rest → drop end text ≡ rest → EndsRun is_blank rest → IsCharBoundary text end
end_boundary text end [] long at stop = let e : length text ≡ end = omega (arith, long) in subst (IsCharBoundary text) e (IsCharBoundary-end text)
end_boundary text end (b ∷ rest) long at stop =
    let byte : get_or text end 0 ≡ b = let zero : end + 0 ≡ end = omega arith in ap (λ k. get_or text k 0) (sym zero) ∙ sym (get_or-drop end text 0 0) ∙ ap (λ l. get_or l 0 0) at in
    IsCharBoundary-before_ascii text end (omega (arith, long)) (omega (arith, byte, leb-true b 32 stop))

-- no word is left past the end
pub none_past : (text : List ℕ) (from : ℕ) → length text < from → NextWord text from None from
unfolding words
none_past text from past = (ap words (drop_of_length-le text (omega arith)), omega arith)

-- all that is said of the places
pub record Found (text : List ℕ) (from start end : ℕ) : Type 0 where
  pub word : start < end → FindsWord text from (slice_range text start end) end
  pub none : end ≤ start → NextWord text from None end
  pub begins : IsCharBoundary text start
  pub ends : IsCharBoundary text end
  pub order : start ≤ end
  pub within : end ≤ length text

pub found : (text : List ℕ) (from start end : ℕ) → IsUtf8 text → from ≤ length text → IsCharBoundary text from
    → start ≡ from + length (take_while is_blank (drop from text)) → end ≡ start + length (take_while word_byte (drop start text))
    → Found text from start end
unfolding words
found text from start end utf8 le boundary start_is end_is =
    let gap : Front is_blank (drop from text) = front_of is_blank (drop from text) in
    let at_start : drop start text ≡ gap.rest =
    ap (λ k. drop k text) (start_is ∙ ap (λ l. from + length l) gap.is) ∙ sym (drop-drop (length gap.front) from text) ∙ ap (drop (length gap.front)) gap.split ∙ drop-append_seam gap.front gap.rest in
    let run : Front word_byte gap.rest = front_of word_byte gap.rest in
    let end_at : end ≡ start + length run.front = end_is ∙ ap (λ l. start + length (take_while word_byte l)) at_start ∙ ap (λ l. start + length l) run.is in
    let start_at : start ≡ from + length gap.front = start_is ∙ ap (λ l. from + length l) gap.is in
    let at_end : drop end text ≡ run.rest =
    ap (λ k. drop k text) end_at ∙ sym (drop-drop (length run.front) start text) ∙ ap (drop (length run.front)) (at_start ∙ run.split) ∙ drop-append_seam run.front run.rest in
    let long : length text ≡ end + length run.rest =
    omega (arith, length-drop from text, ap length gap.split, length-append gap.front gap.rest, ap length run.split, length-append run.front run.rest, end_at, start_at) in
    let stands : drop from text ≡ gap.front ++ (run.front ++ drop end text) = gap.split ∙ ap (λ l. gap.front ++ l) (run.split ∙ ap (λ l. run.front ++ l) (sym at_end)) in
    let slice : slice_range text start end ≡ run.front =
    let n : end - start ≡ length run.front = omega (arith, end_at) in ap (λ k. take k (drop start text)) n ∙ ap (take (length run.front)) (at_start ∙ run.split) ∙ take-append_seam run.front run.rest in
    let stop : EndsRun is_blank run.rest = ends_twice run.rest run.ends in
    record {
      word = λ some.
          subst (λ w. FindsWord text from w end) (sym slice)
          record {
            gap = gap.front;
            blanks = gap.passes;
            stands = stands;
            end = omega (arith, end_at, start_at);
            first = ap words (gap.split ∙ ap (λ l. gap.front ++ l) run.split) ∙ runs-gap is_blank gap.front (run.front ++ run.rest) gap.passes
                ∙ runs-run is_blank run.front run.rest (omega (arith, end_at)) run.passes stop ∙ ap (λ l. run.front ∷ words l) (sym at_end);
          };
      none = λ nothing.
          let empty : gap.rest ≡ [] = no_word gap.rest run.front run.rest run.split gap.ends run.ends (omega (arith, end_at)) in
          (ap words (gap.split ∙ ap (λ l. gap.front ++ l) empty) ∙ runs-gap is_blank gap.front [] gap.passes, omega (arith, length-drop from text, ap length gap.split, length-append gap.front gap.rest, ap length empty, start_at, end_at));
      begins = IsCharBoundary-from_drop text start (omega (arith, long, end_at)) (subst IsUtf8 (sym at_start) (past_blanks gap.front gap.rest (subst IsUtf8 gap.split (IsUtf8-drop text from utf8 boundary)) gap.passes));
      ends = end_boundary text end run.rest long at_end stop;
      order = omega (arith, end_at);
      within = omega (arith, long);
    }

-- what is counted in `&bytes[from..]` is counted from the place on
pub count_from : (p : Test) (bytes text : List ℕ) (from n : ℕ) → bytes ≡ text → n ≡ length (take_while p (take (length bytes - from) (drop from bytes)))
    → from + n ≡ from + length (take_while p (drop from text))
count_from p bytes text from n same is =
    let rest : take (length bytes - from) (drop from bytes) ≡ drop from bytes = take_all (length bytes - from) (drop from bytes) (omega (arith, length-drop from bytes)) in
    ap (λ k. from + k) (is ∙ ap (λ l. length (take_while p l)) (rest ∙ ap (drop from) same))
