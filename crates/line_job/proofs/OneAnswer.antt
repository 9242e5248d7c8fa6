-- Clear rules give one answer.
use Rattle.std.proofs.Common.{◌≡◌, ◌+◌, ◌++◌, ℕ, List, [], ◌∷◌, sym, ap, ◌∙◌, subst, inl, inr, Bool, true, false}
use Rattle.std.proofs.lemmas.Bool.{false≢true}
use Rattle.line_job.specs.declared.stop.Stop.{Stop}
use Rattle.line_job.specs.declared.stop.Stop.TheVariants.{Line}
use Rattle.line_job.specs.Rules.{Rules, KeepsLine, RefusesLine, AreKept, AreAllKept, AreRefused}
use Rattle.line_job.specs.Laws.{AreClear, HasOneAnswer}

both : (b : Bool) → b ≡ true → b ≡ false → ⊥
both b t f = false≢true (sym f ∙ t)

-- a line

pub keeps_one : {Stage Why : Type 0} (rules : Rules Stage Why) (clear : AreClear rules) (stage : Stage) (number : ℕ) (line a b : List ℕ) (s t : Stage)
    → KeepsLine rules stage number line a s → KeepsLine rules stage number line b t → (a ≡ b) × (s ≡ t)
keeps_one rules clear stage number line a b s t (inl h) (inl k) = clear.one_text stage number line a b s t h.2 k.2
keeps_one rules clear stage number line a b s t (inl h) (inr k) = absurd (both _ h.0 k.0)
keeps_one rules clear stage number line a b s t (inr h) (inl k) = absurd (both _ k.0 h.0)
keeps_one rules clear stage number line a b s t (inr h) (inr k) = (h.1 ∙ sym k.1, h.2 ∙ sym k.2)

refuses_one : {Stage Why : Type 0} (rules : Rules Stage Why) (clear : AreClear rules) (stage : Stage) (number : ℕ) (line : List ℕ) (stop other : Stop Why)
    → RefusesLine rules stage number line stop → RefusesLine rules stage number line other → stop ≡ other
refuses_one rules clear stage number line stop other (w, inl h) (v, inl k) = h.1 ∙ sym k.1
refuses_one rules clear stage number line stop other (w, inl h) (v, inr k) = absurd (h.0 k.0)
refuses_one rules clear stage number line stop other (w, inr h) (v, inl k) = absurd (k.0 h.0)
refuses_one rules clear stage number line stop other (w, inr (u, (why, bad, e))) (v, inr (x, (because, worse, f))) =
    e ∙ ap Line (clear.one_cause stage number line why because bad worse) ∙ sym f

keeps_apart : {Stage Why : Type 0} (rules : Rules Stage Why) (clear : AreClear rules) (stage : Stage) (number : ℕ) (line a : List ℕ) (next : Stage) (stop : Stop Why)
    → KeepsLine rules stage number line a next → RefusesLine rules stage number line stop → ⊥
keeps_apart rules clear stage number line a next stop (inl h) (w, inl k) = k.0 h.1
keeps_apart rules clear stage number line a next stop (inl h) (w, inr (u, (why, bad, e))) = clear.never_both stage number line a next why h.2 bad
keeps_apart rules clear stage number line a next stop (inr h) (w, k) = both _ w h.0

-- lines

pub kept_one : {Stage Why : Type 0} (rules : Rules Stage Why) (clear : AreClear rules) (before : ℕ) (stage : Stage) (lines : List (List ℕ)) (a b : List ℕ) (s t : Stage)
    → AreKept rules before stage lines a s → AreKept rules before stage lines b t → (a ≡ b) × (s ≡ t)
kept_one rules clear before stage [] a b s t h k = (h.0 ∙ sym k.0, h.1 ∙ sym k.1)
kept_one {Stage = Stage} rules clear before stage (line ∷ lines) a b s t (first, rest, next, keeps, e, more) (first', rest', next', keeps', e', more') =
    let same = keeps_one rules clear stage (before + 1) line first first' next next' keeps keeps' in
    let moved = subst (λ (n : Stage). AreKept rules (before + 1) n lines rest s) same.1 more in
    let ih = kept_one rules clear (before + 1) next' lines rest rest' s t moved more' in
    (e ∙ ap (λ t. t ++ rest) same.0 ∙ ap (λ t. first' ++ t) ih.0 ∙ sym e', ih.1)

pub refused_one : {Stage Why : Type 0} (rules : Rules Stage Why) (clear : AreClear rules) (ended : Bool) (before : ℕ) (stage : Stage) (lines : List (List ℕ)) (a b : List ℕ) (stop other : Stop Why)
    → AreRefused rules ended before stage lines a stop → AreRefused rules ended before stage lines b other → (a ≡ b) × (stop ≡ other)
refused_one rules clear ended before stage [] a b stop other (w, h, (why, miss, e)) (v, k, (because, lack, f)) =
    (h ∙ sym k, e ∙ ap Line (clear.one_lack stage before why because miss lack) ∙ sym f)
refused_one rules clear ended before stage (line ∷ lines) a b stop other (inl h) (inl k) = (h.0 ∙ sym k.0, refuses_one rules clear stage (before + 1) line stop other h.1 k.1)
refused_one rules clear ended before stage (line ∷ lines) a b stop other (inl h) (inr (first, rest, next, keeps, e, more)) = absurd (keeps_apart rules clear stage (before + 1) line first next stop keeps h.1)
refused_one rules clear ended before stage (line ∷ lines) a b stop other (inr (first, rest, next, keeps, e, more)) (inl k) = absurd (keeps_apart rules clear stage (before + 1) line first next other keeps k.1)
refused_one {Stage = Stage} rules clear ended before stage (line ∷ lines) a b stop other (inr (first, rest, next, keeps, e, more)) (inr (first', rest', next', keeps', e', more')) =
    let same = keeps_one rules clear stage (before + 1) line first first' next next' keeps keeps' in
    let moved = subst (λ (n : Stage). AreRefused rules ended (before + 1) n lines rest stop) same.1 more in
    let ih = refused_one rules clear ended (before + 1) next' lines rest rest' stop other moved more' in
    (e ∙ ap (λ t. t ++ rest) same.0 ∙ ap (λ t. first' ++ t) ih.0 ∙ sym e', ih.1)

-- lines that are kept, and whose end is kept where it is reached, are not refused
pub kept_apart : {Stage Why : Type 0} (rules : Rules Stage Why) (clear : AreClear rules) (ended : Bool) (before : ℕ) (stage last : Stage) (lines : List (List ℕ)) (a b : List ℕ) (stop : Stop Why)
    → AreKept rules before stage lines a last → (ended ≡ true → (tail : List ℕ) × rules.ends last tail) → AreRefused rules ended before stage lines b stop → ⊥
kept_apart {Stage = Stage} rules clear ended before stage last [] a b stop h end (w, k, (why, miss, e)) =
    let kept = end w in clear.no_end_is_missed stage before kept.0 why (subst (λ (n : Stage). rules.ends n kept.0) h.1 kept.1) miss
kept_apart rules clear ended before stage last (line ∷ lines) a b stop (first, rest, next, keeps, e, more) end (inl k) = keeps_apart rules clear stage (before + 1) line first next stop keeps k.1
kept_apart {Stage = Stage} rules clear ended before stage last (line ∷ lines) a b stop (first, rest, next, keeps, e, more) end (inr (first', rest', next', keeps', e', more')) =
    let same = keeps_one rules clear stage (before + 1) line first first' next next' keeps keeps' in
    let moved = subst (λ (n : Stage). AreKept rules (before + 1) n lines rest last) same.1 more in
    kept_apart rules clear ended (before + 1) next' last lines rest rest' stop moved end more'

pub all_one : {Stage Why : Type 0} (rules : Rules Stage Why) (clear : AreClear rules) (before : ℕ) (start : Stage) (lines : List (List ℕ)) (a b : List ℕ) → AreAllKept rules before start lines a → AreAllKept rules before start lines b → a ≡ b
all_one {Stage = Stage} rules clear before start lines a b (owed, tail, last, h, ends, e) (owed', tail', last', k, ends', e') =
    let same = kept_one rules clear before start lines owed owed' last last' h k in
    let end : tail ≡ tail' = clear.one_end last' tail tail' (subst (λ (n : Stage). rules.ends n tail) same.1 ends) ends' in
    e ∙ ap (λ t. t ++ tail) same.0 ∙ ap (λ t. owed' ++ t) end ∙ sym e'

pub has_one_answer : {Stage Why : Type 0} (rules : Rules Stage Why) → AreClear rules → HasOneAnswer rules
has_one_answer rules clear = record {
  one_text = all_one rules clear 0;
  one_refusal = λ ended start lines a b stop other. refused_one rules clear ended 0 start lines a b stop other;
  never_both = λ ended start lines a b stop h k. kept_apart rules clear ended 0 start h.2 lines h.0 b stop h.3 (λ w. (h.1, h.4)) k;
}
