-- A step of std's `SplitWhitespace` takes the first word.
use Rattle.std.proofs.Common.{◌≡◌, ◌<◌, ℕ, true, false, not, cond, List, [], ◌∷◌, ◌++◌, length, map, Option, Some, None, Ok, refl, sym, ◌∙◌, ap, subst, arith, append_assoc, length-append}
use denote.Ref.{Bor}
use Rattle.std.specs.Char.{is_whitespace, is_not_whitespace}
use Rattle.std.specs.List.{AllPass}
use Rattle.std.specs.Str.{NonePass, NoCharPasses, EmptyOrStartsWithPassing, IsUtf8, is_utf8, chars, all_scalars, encode_utf8_all}
use Rattle.std.specs.Cmp.{second_so}
use Rattle.std.specs.declared.str.SplitWhitespace.{SplitWhitespace}
use Rattle.std.specs.Str.Iter.{split_whitespace_rest, split_whitespace_steps}
use Rattle.std.proofs.lemmas.Bool.{cond-true}
use Rattle.std.proofs.lemmas.Str.{IsUtf8-from_is_utf8, is_utf8-from_IsUtf8, cons_from_encodes, chars-encodes, encodes-chars, scalars-chars, length-le-encodes}
use Rattle.whiteread.specs.Words.{white_words, runs, EndsRun}
use Rattle.whiteread.specs.Stream.{TakesFirst}
use Rattle.whiteread.specs.Words.White.{GivesWhite}
use Rattle.whiteread.specs.Inner.WordProofs.{pass-nil, pass-cons, all_white, no_word}
use Rattle.whiteread.proofs.WordLemmas.{runs-gap, runs-run}

none_white : (cs : List ℕ) → NonePass is_whitespace cs → AllPass (λ c. not (is_whitespace c)) cs
none_white [] none = pass-nil (λ c. not (is_whitespace c))
none_white (c ∷ cs) none = pass-cons (λ c. not (is_whitespace c)) c cs (ap not none.0) (none_white cs none.1)

-- characters that begin with some are these and more
split_encodes : (cs tail all : List ℕ) → encode_utf8_all all ≡ encode_utf8_all cs ++ tail → (more : List ℕ) × (all ≡ cs ++ more) × (encode_utf8_all more ≡ tail)
split_encodes [] tail all is = (all, refl, is)
split_encodes (c ∷ cs) tail all is =
    let one = cons_from_encodes all (encode_utf8_all cs ++ tail) c (is ∙ append_assoc _ (encode_utf8_all cs) tail) in
    let more = split_encodes cs tail one.0 one.2 in
    (more.0, one.1 ∙ ap (λ l. c ∷ l) more.1, more.2)

scalars_after : (xs ys : List ℕ) → all_scalars (xs ++ ys) ≡ true → all_scalars ys ≡ true
scalars_after [] ys h = h
scalars_after (x ∷ xs) ys h = scalars_after xs ys (second_so _ (all_scalars (xs ++ ys)) h)

ends_run : (cs rest more : List ℕ) → encode_utf8_all cs ≡ rest → EmptyOrStartsWithPassing is_whitespace rest more → EndsRun is_whitespace cs
ends_run [] rest more is starts = tt
ends_run (c ∷ cs) rest more is starts =
    let some : 0 < length rest = omega (arith, ap length is, length-le-encodes (c ∷ cs)) in
    let first = starts some in
    let same = cons_from_encodes (c ∷ cs) more first.0 (is ∙ first.2) in
    let e : c ≡ first.0 = let s = same.1 in cc in
    ap is_whitespace e ∙ first.1

-- the text splits at its first word
takes_word : (text gap word rest more : List ℕ) → IsUtf8 text → text ≡ gap ++ (word ++ rest) → 0 < length word → NoCharPasses is_not_whitespace gap → NoCharPasses is_whitespace word
    → EmptyOrStartsWithPassing is_whitespace rest more → IsUtf8 rest × (white_words text ≡ word ∷ white_words rest)
unfolding white_words
takes_word text gap word rest more utf8 is some blank none starts =
    let all = chars text in
    let first = split_encodes blank.0 (word ++ rest) all (encodes-chars text utf8 ∙ is ∙ ap (λ l. l ++ (word ++ rest)) (sym blank.1)) in
    let second = split_encodes none.0 rest first.0 (first.2 ∙ ap (λ l. l ++ rest) (sym none.1)) in
    let parts : all ≡ blank.0 ++ (none.0 ++ second.0) = first.1 ∙ ap (λ l. blank.0 ++ l) second.1 in
    let scalar : all_scalars second.0 ≡ true =
    scalars_after none.0 second.0 (scalars_after blank.0 (none.0 ++ second.0) (ap all_scalars (sym parts) ∙ scalars-chars text utf8)) in
    let rest_chars : chars rest ≡ second.0 = ap chars (sym second.2) ∙ chars-encodes second.0 scalar in
    let filled : 0 < length none.0 = filled_of none.0 word none.1 some in (
      (second.0, (scalar, second.2)),
      ap (λ cs. map encode_utf8_all (runs is_whitespace cs)) parts
          ∙ ap (map encode_utf8_all) (runs-gap is_whitespace blank.0 (none.0 ++ second.0) (all_white blank.0 blank.2) ∙ runs-run is_whitespace none.0 second.0 filled (none_white none.0 none.2) (ends_run second.0 rest more second.2 starts))
          ∙ ap (λ w. w ∷ map encode_utf8_all (runs is_whitespace second.0)) none.1
          ∙ ap (λ cs. word ∷ map encode_utf8_all (runs is_whitespace cs)) (sym rest_chars),
    ) where
      filled_of : (cs word : List ℕ) → encode_utf8_all cs ≡ word → 0 < length word → 0 < length cs
      filled_of [] word is some = absurd (omega (arith, ap length is, some))
      filled_of (c ∷ cs) word is some = omega arith

takes_none : (text : List ℕ) → NoCharPasses is_not_whitespace text → TakesFirst (cond (is_utf8 text) (Some (white_words text)) None) (Ok None) (cond (is_utf8 text) (Some (white_words text)) None)
takes_none text none =
    elim (is_utf8 text) as (λ b. is_utf8 text ≡ b → TakesFirst (cond b (Some (white_words text)) None) (Ok None) (cond b (Some (white_words text)) None)) [
      | true ↦ λ h. let empty = no_word text (IsUtf8-from_is_utf8 text h) none in (empty, ap Some empty)
      | false ↦ λ h. tt
    ] refl

takes_some : (text word rest : List ℕ) → (IsUtf8 text → IsUtf8 rest × (white_words text ≡ word ∷ white_words rest))
    → TakesFirst (cond (is_utf8 text) (Some (white_words text)) None) (Ok (Some word)) (cond (is_utf8 rest) (Some (white_words rest)) None)
takes_some text word rest parts =
    elim (is_utf8 text) as (λ b. is_utf8 text ≡ b → TakesFirst (cond b (Some (white_words text)) None) (Ok (Some word)) (cond (is_utf8 rest) (Some (white_words rest)) None)) [
      | true ↦ λ h. let both = parts (IsUtf8-from_is_utf8 text h) in
          (white_words rest, both.1, cond-true (is_utf8 rest) (Some (white_words rest)) None (is_utf8-from_IsUtf8 rest both.0))
      | false ↦ λ h. tt
    ] refl

pub gives_white : (old : SplitWhitespace) (found : Option (Bor (List ℕ))) (new : SplitWhitespace) → split_whitespace_steps old found new → GivesWhite old found new
gives_white old None new step = subst (λ s. GivesWhite old None s) (sym step.0) record {
  words = takes_none (split_whitespace_rest old) step.1;
  bound = omega arith;
  end = step.1;
  counts = refl;
  step = tt;
  memory = tt;
}
gives_white old (Some word) new step = record {
  words = takes_some (split_whitespace_rest old) word.now (split_whitespace_rest new)
      (λ utf8. takes_word (split_whitespace_rest old) step.0 word.now (split_whitespace_rest new) step.5.0 utf8 step.1 step.2 step.3 step.4 step.5.1);
  bound = omega (arith, ap length step.1, length-append step.0 (word.now ++ split_whitespace_rest new), length-append word.now (split_whitespace_rest new), step.2);
  end = tt;
  counts = refl;
  step = tt;
  memory = tt;
}
