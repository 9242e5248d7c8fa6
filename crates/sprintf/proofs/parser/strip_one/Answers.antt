use Rattle.std.proofs.Common.{◌≡◌, ◌≢◌, ℕ, ◌+◌, ◌<◌, List, [], ◌∷◌, ◌++◌, length, map, drop, get_or, Some, None, unwrap_or, refl, sym, ap, ◌∙◌, arith, Bor}
use Rattle.std.proofs.lemmas.Bool.Decides.{nat_tests}
use Rattle.std.proofs.lemmas.List.{at_drop_more}
use Rattle.sprintf.specs.Inner.Reading.{behind, skip_one}
use Rattle.sprintf.proofs.parser.strip_one.Goals as goal

-- the text behind a word that it begins with
behind-append : (word rest : List ℕ) → behind word (word ++ rest) ≡ Some rest
behind-append [] rest = refl
behind-append (c ∷ word) rest = grind (arith, nat_tests, behind-append word rest)

behind-lacks : (word text : List ℕ) → ((rest : List ℕ) → text ≢ word ++ rest) → behind word text ≡ None
behind-lacks [] text h = absurd (h text refl)
behind-lacks (c ∷ word) [] h = refl
behind-lacks (c ∷ word) (b ∷ text) h = grind (arith, nat_tests, behind-lacks word text)

found : (word text rest : List ℕ) (x : ℕ) → text ≡ word ++ drop x text → rest ≡ drop x text → behind word text ≡ Some rest
found word text rest x e f = ap (behind word) e ∙ behind-append word (drop x text) ∙ ap Some (sym f)

-- the words that are left, by the next one
next_word : (words : List (Bor (List ℕ))) (text : List ℕ) (i : ℕ) (d : Bor (List ℕ)) → i < length words → skip_one (map (λ w. w.now) (drop i words)) text ≡ unwrap_or (behind (get_or words i d).now text) (skip_one (map (λ w. w.now) (drop (i + 1) words)) text)
next_word words text i d h = at_drop_more (λ ws. skip_one (map (λ w. w.now) ws) text) words i d h

pub returns-in-Some : goal.returns-in-Some
returns-in-Some c =
    let it = c.in-Some.ensures.cases in
    let e : behind (get_or c.args.words.now c.loop-word.word-index (record { ref_ptr = (0, 0); now = [] })).now c.args.text.now ≡ Some c.in-Some.rest.now = found _ _ _ it.0 it.1.1 it.2 in
    rw (c.loop-word.invariant, next_word c.args.words.now c.args.text.now c.loop-word.word-index (record { ref_ptr = (0, 0); now = [] }) (omega arith), e) refl

pub loop-word-preserved : goal.loop-word-preserved
loop-word-preserved c =
    let e : behind (get_or c.args.words.now c.loop-word.word-index (record { ref_ptr = (0, 0); now = [] })).now c.args.text.now ≡ None = behind-lacks _ _ c.in_default.ensures.cases in
    rw (c.loop-word.invariant, next_word c.args.words.now c.args.text.now c.loop-word.word-index (record { ref_ptr = (0, 0); now = [] }) (omega arith), e) refl
