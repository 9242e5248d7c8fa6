-- Texts that are joined, one after the other.
use Rattle.std.proofs.Common.{◌≡◌, ◌++◌, ℕ, List, [], ◌∷◌, sym, ap, ◌∙◌, append_assoc}
use Rattle.std.specs.Str.{byte}
use Rattle.std.proofs.lemmas.List.{append-nil}
use Rattle.plan_jobs.specs.Scan.{tab_joined}

-- what stands behind the texts that were joined
abbrev pub behind : List (List ℕ) → List ℕ
behind [] = []
behind (text ∷ texts) = byte "\t" ∷ (text ++ behind texts)

pub joined_first : (text : List ℕ) (texts : List (List ℕ)) → tab_joined (text ∷ texts) ≡ text ++ behind texts
joined_first text [] = sym (append-nil text)
joined_first text (other ∷ texts) = ap (λ (t : List ℕ). text ++ byte "\t" ∷ t) (joined_first other texts)

pub joined_more : (all done text : List ℕ) (texts : List (List ℕ)) → all ≡ done ++ behind (text ∷ texts) → all ≡ ((done ++ byte "\t" ∷ []) ++ text) ++ behind texts
joined_more all done text texts is = is ∙ sym (append_assoc (done ++ byte "\t" ∷ []) text (behind texts) ∙ append_assoc done (byte "\t" ∷ []) (text ++ behind texts))
