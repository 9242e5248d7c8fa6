-- A line whose front is compared with a text, piece by piece.
use denote.Bor.{Bor}
use Rattle.std.proofs.Common.{◌≡◌, ◌≢◌, ◌↔◌, ◌++◌, ℕ, List, Bool, IsTrue, IfOk, Option, Some, None, Result, Ok, Err, MatchOption, ap, sym, ◌∙◌}
use Rattle.std.proofs.lemmas.List.{append_assoc, append_cancel_left}
use Rattle.numerals.specs.declared.NoMemory.{NoMemory}
use Rattle.row_plan.specs.Inner.Reading.{Continues}

-- where the text stands in front, the line is the text and more just where what stands behind is more
pub behind_text : (line text rest more : List ℕ) (r : Result Bool NoMemory) → line ≡ text ++ rest → IfOk r (λ yes. IsTrue yes ↔ (rest ≡ more)) → IfOk r (λ yes. IsTrue yes ↔ (line ≡ text ++ more))
behind_text line text rest more (Ok same) whole h = (
  λ so. whole ∙ ap (λ (r : List ℕ). text ++ r) (h.0 so),
  λ e. h.1 (append_cancel_left text rest more (sym whole ∙ e)),
)
behind_text line text rest more (Err why) whole h = tt

-- the same of a field's text and the literal text behind it
pub continues : (line field after text : List ℕ) (r : Option (Bor (List ℕ))) → text ≡ field ++ after → MatchOption r ((rest : List ℕ) → line ≢ text ++ rest) (λ rest. line ≡ text ++ rest.now) → Continues line field after r
continues line field after text (Some rest) both whole = λ more. (
  λ e. append_cancel_left text rest.now more (sym whole ∙ e ∙ sym (append_assoc field after more) ∙ ap (λ (t : List ℕ). t ++ more) (sym both)),
  λ e. whole ∙ ap (λ (r : List ℕ). text ++ r) e ∙ ap (λ (t : List ℕ). t ++ more) both ∙ append_assoc field after more,
)
continues line field after text None both none = λ more e. none more (e ∙ sym (append_assoc field after more) ∙ ap (λ (t : List ℕ). t ++ more) (sym both))
