use Rattle.std.proofs.Common.{◌≡◌, ◌∙◌, ◌++◌, ◌∷◌, ℕ, List, map, drop, ap, sym, subst, refl, IsTrue, arith}
use Rattle.std.proofs.lemmas.Grind.{common_steps}
use Rattle.std.specs.List.{AllByRecursion}
use Rattle.whiteread.specs.Words.{words}
use Rattle.whiteread.specs.Words.Split.{words_left, split_position}
use Rattle.values.specs.Datum.{word_text}
use Rattle.header_lines.specs.Heading.{IsName}
use Rattle.header_lines.proofs.NameLemmas.{named_here}
use Rattle.header_lines.proofs.names.names_of.Goals as goal

pub returns-then-not-is_name-clause-refused : goal.returns-then-not-is_name-clause-refused
returns-then-not-is_name-clause-refused c =
    let front : List (List ℕ) = map word_text c.words.names.items in
    let word : List ℕ = c.in-Some.word.now in
    let step = c.in-Some.ensures.steps in
    let next : words_left c.words.word-iterator ≡ word ∷ words_left c.next.new.self = step.1.first ∙ ap (λ (text : List ℕ). word ∷ words (drop (split_position c.next.new.self) text)) (sym step.0) in
    let stand : words c.args.line.now ≡ front ++ word ∷ words_left c.next.new.self = c.words.invariant.2 ∙ ap (λ (more : List (List ℕ)). front ++ more) next in
    (λ named. (let here : IsName word = named_here front word (words_left c.next.new.self) (subst (AllByRecursion IsName) stand named) in let yes : IsTrue c.is_name.result = c.is_name.ensures.1 here in absurd (grind (arith, common_steps, yes, c.if-not-is_name.true))), refl)
