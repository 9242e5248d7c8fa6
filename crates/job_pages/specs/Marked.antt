-- The rules of the job that marks lines, and that they are clear.
use Rattle.std.specs.Prelude.{◌≡◌, ◌≢◌, ℕ, List, [], ◌∷◌, ◌++◌, true, codes}
use Rattle.std.proofs.Common.{sym, ◌∙◌}
use Rattle.line_job.specs.Laws.{AreClear}
use Rattle.line_job.specs.Rules.{Rules}
use Rattle.line_job.specs.Told.{line_message}
use Rattle.job_pages.specs.declared.line_job_page.Empty.{Empty}

-- Each line may come next.
pub data Stage : Type 0 where
  any_line : Stage

-- A line that isn't empty is kept, and owed behind a mark.
abbrev pub Keeps : Stage → ℕ → List ℕ → List ℕ → Stage → Type 0
Keeps any_line number line text next = (line ≢ []) × (text ≡ codes "> " ++ (line ++ 10 ∷ [])) × (next ≡ any_line)

-- An empty line is refused.
abbrev pub Refuses : Stage → ℕ → List ℕ → Empty → Type 0
Refuses any_line number line why = (line ≡ []) × (why.line ≡ number)

-- The input may end everywhere, and nothing is owed then.
abbrev pub mark_rules : Rules Stage Empty
mark_rules = record { judges = λ stage. true; keeps = Keeps; refuses = Refuses; ends = λ stage text. text ≡ []; misses = λ stage before why. ⊥ }

-- The message tells the line's number.
abbrev pub empty_message : Empty → List ℕ
empty_message why = line_message why.line (codes "empty")

one_text : (stage : Stage) (number : ℕ) (line a b : List ℕ) (s t : Stage) → Keeps stage number line a s → Keeps stage number line b t → (a ≡ b) × (s ≡ t)
one_text any_line number line a b s t h k = (h.1 ∙ sym k.1, h.2 ∙ sym k.2)

same_empty : (a b : Empty) → a.line ≡ b.line → a ≡ b
same_empty a b e = λ i. record { line = e i }

one_cause : (stage : Stage) (number : ℕ) (line : List ℕ) (why other : Empty) → Refuses stage number line why → Refuses stage number line other → why ≡ other
one_cause any_line number line why other h k = same_empty why other (h.1 ∙ sym k.1)

never_both : (stage : Stage) (number : ℕ) (line a : List ℕ) (next : Stage) (why : Empty) → Keeps stage number line a next → Refuses stage number line why → ⊥
never_both any_line number line a next why h k = h.0 k.0

pub mark_clear : AreClear mark_rules
mark_clear = record {
  one_text = one_text;
  one_cause = one_cause;
  never_both = never_both;
  one_end = λ stage a b h k. h ∙ sym k;
  one_lack = λ stage before why other h k. absurd h;
  no_end_is_missed = λ stage before a why h k. k;
}
