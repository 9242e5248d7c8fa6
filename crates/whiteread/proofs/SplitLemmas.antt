-- A call of `next` over a split text.
use Rattle.std.proofs.Common.{length-drop, length-append, ◌++◌, ◌≡◌, ◌≤◌, ℕ, List, [], ◌∷◌, length, drop, drop_of_length-le, max, Option, Some, None, Ok, Err, refl, sym, ◌∙◌, ap, arith}
use denote.Ref.{Bor}
use Rattle.whiteread.specs.Words.{words}
use Rattle.whiteread.specs.Stream.{Answer, TakesFirst, NextCall, answer_of}
use Rattle.whiteread.specs.Reading.{Reaches, Reached}
use Rattle.whiteread.specs.Words.Found.{NextWord}
use Rattle.whiteread.specs.Words.Split.{split_text, split_position, words_left, SplitStep, GivesWord, split_stream}
use Rattle.whiteread.specs.declared.stream.split.SplitAsciiWhitespace.{SplitAsciiWhitespace}
use Rattle.whiteread.proofs.NextLemmas.{told_call}

no_words : (text : List ℕ) (from to : ℕ) → to ≡ max from (length text) → words (drop to text) ≡ []
unfolding words
no_words text from to is = ap words (drop_of_length-le text (omega (arith, is)))

takes_first : (old : SplitAsciiWhitespace) (found : Option (List ℕ)) (new : SplitAsciiWhitespace) → SplitStep old (Ok found) new → TakesFirst (Some (words_left old)) (Ok found) (Some (words_left new))
takes_first old None new by = (by.1.0, ap Some (ap (λ t. words (drop (split_position new) t)) by.0 ∙ no_words (split_text old) (split_position old) (split_position new) by.1.1))
takes_first old (Some word) new by =
    (words_left new, by.1.first ∙ ap (λ t. word ∷ words (drop (split_position new) t)) (sym by.0), refl)

pub split_call : (old : SplitAsciiWhitespace) (found : Option (Bor (List ℕ))) (new : SplitAsciiWhitespace) → GivesWord old found new → NextCall split_stream old (answer_of (Ok found)) new
split_call old None new by = told_call words_left SplitStep old None new by (takes_first old None new by)
split_call old (Some word) new by = told_call words_left SplitStep old (Some word.now) new by (takes_first old (Some word.now) new by)

next_within : (text : List ℕ) (from to : ℕ) (found : Option (List ℕ)) → NextWord text from found to → from ≤ length text → to ≤ length text
next_within text from to None next le = omega (arith, next.1, le)
next_within text from to (Some word) next le =
    omega (arith, le, next.end, ap (λ (l : List ℕ). length l) next.stands, length-drop from text, length-append next.gap (word ++ drop to text), length-append word (drop to text), length-drop to text)

next_forward : (text : List ℕ) (from to : ℕ) (found : Option (List ℕ)) → NextWord text from found to → from ≤ to
next_forward text from to None next = omega (arith, next.1)
next_forward text from to (Some word) next = omega (arith, next.end)

-- the same text, of which no fewer bytes were passed
pub record Passed (old new : SplitAsciiWhitespace) : Type 0 where
  pub text : split_text new ≡ split_text old
  pub forward : split_position old ≤ split_position new
  pub within : split_position old ≤ length (split_text old) → split_position new ≤ length (split_text old)

step_passed : (old : SplitAsciiWhitespace) (answer : Answer) (new : SplitAsciiWhitespace) → SplitStep old answer new → Passed old new
step_passed old (Ok found) new by = record { text = by.0; forward = next_forward (split_text old) (split_position old) (split_position new) found by.1; within = next_within (split_text old) (split_position old) (split_position new) found by.1 }
step_passed old (Err why) new by = absurd by

reaches_passed : (old : SplitAsciiWhitespace) (streams : List SplitAsciiWhitespace) (new : SplitAsciiWhitespace) → Reaches SplitStep old streams new → Passed old new
reaches_passed old [] new is = record { text = ap split_text is; forward = omega (arith, ap split_position is); within = λ le. omega (arith, le, ap split_position is) }
reaches_passed old (next ∷ more) new steps =
    let one = step_passed old steps.0.0 next steps.0.1 in
    let rest = reaches_passed next more new steps.1 in
    record { text = rest.text ∙ one.text; forward = omega (arith, one.forward, rest.forward); within = λ le. let mid = one.within le in omega (arith, rest.within (omega (arith, mid, ap (λ (l : List ℕ). length l) one.text)), ap (λ (l : List ℕ). length l) one.text) }

-- calls of `next` keep the text and never go back
pub reached_passed : (old new : SplitAsciiWhitespace) → Reached SplitStep old new → Passed old new
reached_passed old new reached = reaches_passed old reached.streams new reached.steps
