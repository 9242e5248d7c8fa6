-- The rules of the job that scans are clear.
use Rattle.std.proofs.Common.{◌≡◌, ◌++◌, ℕ, List, [], ◌∷◌, map, sym, ap, ◌∙◌, refl}
use Rattle.std.specs.List.{AllByRecursion}
use Rattle.std.specs.Str.{chars, IsUtf8}
use lib.Utf8.{encodes}
use Rattle.std.proofs.lemmas.Str.{encodes-chars}
use Rattle.std.proofs.lemmas.List.Elements.{recursion_from_All}
use Rattle.scan_fmt.specs.Scanned.{Token}
use Rattle.scan_fmt.proofs.OneAnswer.{one_answer}
use Rattle.line_job.specs.Laws.{AreClear}
use Rattle.plan_jobs.specs.Scan.{ScanStage, AreTokens, tab_joined, Keeps, scan_rules}

same_texts : (a b : List (List ℕ)) → AllByRecursion IsUtf8 a → AllByRecursion IsUtf8 b → map chars a ≡ map chars b → a ≡ b
same_texts [] [] p q e = refl
same_texts [] (y ∷ b) p q e = absurd (cc)
same_texts (x ∷ a) [] p q e = absurd (cc)
same_texts (x ∷ a) (y ∷ b) p q e =
    let first : chars x ≡ chars y = cc in
    let rest : map chars a ≡ map chars b = cc in
    let one : x ≡ y = sym (encodes-chars x p.0) ∙ ap encodes first ∙ encodes-chars y q.0 in
    let more : a ≡ b = same_texts a b p.1 q.1 rest in
    cc

one_list : (format line : List ℕ) (a b : List (List ℕ)) → AreTokens format line a → AreTokens format line b → a ≡ b
one_list format line a b p q =
    let tokens = one_answer (chars line) (chars format) p.scanned.0 q.scanned.0 p.scanned.1 q.scanned.1 in
    same_texts a b (recursion_from_All _ a p.utf8) (recursion_from_All _ b q.utf8) (p.scanned.2 ∙ ap (map (λ (t : Token). t.text)) tokens ∙ sym q.scanned.2)

one_text : (stage : ScanStage) (number : ℕ) (line a b : List ℕ) (s t : ScanStage) → Keeps stage number line a s → Keeps stage number line b t → (a ≡ b) × (s ≡ t)
one_text stage number line a b s t ((tokens, are, e), n) ((others, too, f), m) =
    (e ∙ ap (λ (ts : List (List ℕ)). tab_joined ts ++ 10 ∷ []) (one_list stage.format line tokens others are too) ∙ sym f, n ∙ sym m)

pub scan_clear : AreClear scan_rules
scan_clear = record {
  one_text = one_text;
  one_cause = λ stage number line why other h k. absurd h;
  never_both = λ stage number line a next why h k. k;
  one_end = λ stage a b h k. h ∙ sym k;
  one_lack = λ stage before why other h k. absurd h;
  no_end_is_missed = λ stage before a why h k. k;
}
