-- The rules are clear.
use Rattle.std.proofs.Common.{◌≡◌, ℕ, List, sym, ◌∙◌}
use Rattle.line_job.specs.Laws.{AreClear}
use Rattle.line_job_tests.specs.declared.quote.Empty.{Empty}
use Rattle.line_job_tests.specs.Quote.{Stage, lead_next, lines_next, Keeps, Refuses, Ends, Misses, quote_rules}

one_text : (stage : Stage) (number : ℕ) (line a b : List ℕ) (s t : Stage) → Keeps stage number line a s → Keeps stage number line b t → (a ≡ b) × (s ≡ t)
one_text lead_next number line a b s t h k = (h.0 ∙ sym k.0, h.1 ∙ sym k.1)
one_text (lines_next lead) number line a b s t h k = (h.1 ∙ sym k.1, h.2 ∙ sym k.2)

same_empty : (a b : Empty) → a.line ≡ b.line → a ≡ b
same_empty a b e = λ i. record { line = e i }

one_cause : (stage : Stage) (number : ℕ) (line : List ℕ) (why other : Empty) → Refuses stage number line why → Refuses stage number line other → why ≡ other
one_cause lead_next number line why other h k = absurd h
one_cause (lines_next lead) number line why other h k = same_empty why other (h.1 ∙ sym k.1)

never_both : (stage : Stage) (number : ℕ) (line a : List ℕ) (next : Stage) (why : Empty) → Keeps stage number line a next → Refuses stage number line why → ⊥
never_both lead_next number line a next why h k = k
never_both (lines_next lead) number line a next why h k = h.0 k.0

one_end : (stage : Stage) (a b : List ℕ) → Ends stage a → Ends stage b → a ≡ b
one_end lead_next a b h k = absurd h
one_end (lines_next lead) a b h k = h ∙ sym k

one_lack : (stage : Stage) (before : ℕ) (why other : Empty) → Misses stage before why → Misses stage before other → why ≡ other
one_lack lead_next before why other h k = same_empty why other (h ∙ sym k)
one_lack (lines_next lead) before why other h k = absurd h

no_end_is_missed : (stage : Stage) (before : ℕ) (a : List ℕ) (why : Empty) → Ends stage a → Misses stage before why → ⊥
no_end_is_missed lead_next before a why h k = h
no_end_is_missed (lines_next lead) before a why h k = k

pub quote_clear : AreClear quote_rules
quote_clear = record { one_text = one_text; one_cause = one_cause; never_both = never_both; one_end = one_end; one_lack = one_lack; no_end_is_missed = no_end_is_missed }
