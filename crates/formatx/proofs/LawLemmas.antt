-- Proofs of the laws.
use Rattle.std.proofs.Common.{◌≡◌, ◌⊎◌, inl, inr, ℕ, ◌+◌, Bool, true, false, List, [], ◌∷◌, Option, Some, None, Result, Ok, Err, refl, ap, sym, subst, ◌∙◌}
use Rattle.formatx.specs.Fault.{Fault, missing, ◌>>=◌}
use Rattle.formatx.specs.Values.{Meaning}
use Rattle.formatx.specs.Scene.{Scene}
use Rattle.formatx.specs.Counts.{precision_of}
use Rattle.formatx.specs.Arguments.{argument_name, precision_takes, value_at}
use Rattle.formatx.specs.Text.{Outcome, Prints, argument_text, continued, rendered, segment_takes, segment_text, whole}
use Rattle.formatx.specs.Grammar.{Spells}
use Rattle.formatx.proofs.PrintLemmas.{whole_fault}
use Rattle.formatx.specs.Laws.{FinishesAgree, MissingIsEmpty}
use Rattle.formatx.specs.declared.ast.Placeholder.{Placeholder}
use Rattle.formatx.specs.declared.ast.Segment.{Segment}
use Rattle.formatx.specs.declared.ast.Segment.TheVariants.{Literal, EscapedOpen, EscapedClose, Placeholder as Placed}
use Rattle.formatx.specs.declared.ast.Span.{Span}

-- the same scene, strict or lenient
abbrev with_strict : Scene → Bool → Scene
with_strict scene strict = record scene { strict = strict }

-- both are the same, or the first refuses a missing value
abbrev Agree : {A : Type 0} → Result A Fault → Result A Fault → Type 0
Agree one other = (one ≡ other) ⊎ ((name : List ℕ) × (s : Span) × (one ≡ Err (missing name s)))

abbrev OutcomesAgree : Outcome → Outcome → Type 0
OutcomesAgree one other = (one ≡ other) ⊎ ((name : List ℕ) × (s : Span) × (one.fault ≡ Some (missing name s)))

bind_agree : {A B : Type 0} (r : Result A Fault) (f g : A → Result B Fault) → ((a : A) → Agree (f a) (g a)) → Agree (r >>= f) (r >>= g)
bind_agree (Ok a) f g e = e a
bind_agree (Err fault) f g e = inl refl

argument_agrees : (scene : Scene) (next : ℕ) (p : Placeholder) (precision : Option ℕ) (v : Option Meaning) → Agree (argument_text (with_strict scene true) next p precision v) (argument_text (with_strict scene false) next p precision v)
argument_agrees scene next p precision (Some m) = inl refl
argument_agrees scene next p precision None = inr (argument_name scene.source next p.argument, p.span, refl)

segment_agrees : (scene : Scene) (next : ℕ) (s : Segment) → Agree (segment_text (with_strict scene true) next s) (segment_text (with_strict scene false) next s)
segment_agrees scene next (Literal s) = inl refl
segment_agrees scene next EscapedOpen = inl refl
segment_agrees scene next EscapedClose = inl refl
segment_agrees scene next (Placed p) =
    let own = next + precision_takes p.spec.precision in
    bind_agree (precision_of scene next p.spec.precision)
    (λ precision. argument_text (with_strict scene true) own p precision (value_at scene own p.argument))
    (λ precision. argument_text (with_strict scene false) own p precision (value_at scene own p.argument))
    (λ precision. argument_agrees scene own p precision (value_at scene own p.argument))

-- a text before a fault, or a fault before it
faulty_rest : (a : Result (List ℕ) Fault) (o q : Outcome) → (name : List ℕ) × (s : Span) × (o.fault ≡ Some (missing name s)) → OutcomesAgree (continued a o) (continued a q)
faulty_rest (Ok text) o q h = inr h
faulty_rest (Err fault) o q h = inl refl

same_first : (a : Result (List ℕ) Fault) (o q : Outcome) → OutcomesAgree o q → OutcomesAgree (continued a o) (continued a q)
same_first a o q (inl e) = inl (ap (continued a) e)
same_first a o q (inr h) = faulty_rest a o q h

continued_agree : (a b : Result (List ℕ) Fault) (o q : Outcome) → Agree a b → OutcomesAgree o q → OutcomesAgree (continued a o) (continued b q)
continued_agree a b o q (inl e) h = subst (λ (r : Result (List ℕ) Fault). OutcomesAgree (continued a o) (continued r q)) e (same_first a o q h)
continued_agree a b o q (inr k) h = inr (k.0, k.1, ap (λ (r : Result (List ℕ) Fault). (continued r o).fault) k.2)

rendered_agrees : (scene : Scene) (next : ℕ) (ss : List Segment) → OutcomesAgree (rendered (with_strict scene true) next ss) (rendered (with_strict scene false) next ss)
rendered_agrees scene next [] = inl refl
rendered_agrees scene next (s ∷ ss) =
    let after = next + segment_takes s in
    continued_agree (segment_text (with_strict scene true) next s) (segment_text (with_strict scene false) next s)
    (rendered (with_strict scene true) after ss) (rendered (with_strict scene false) after ss)
    (segment_agrees scene next s) (rendered_agrees scene after ss)

-- what the segments of a source print, where the strict one refuses no missing value
same_whole : (scene : Scene) (ss : List Segment) → Spells scene.source ss → ((name : List ℕ) (s : Span) → ¬ Prints (with_strict scene true) (Err (missing name s)))
    → OutcomesAgree (rendered (with_strict scene true) 0 ss) (rendered (with_strict scene false) 0 ss) → whole (rendered (with_strict scene true) 0 ss) ≡ whole (rendered (with_strict scene false) 0 ss)
same_whole scene ss spelled none (inl e) = ap whole e
same_whole scene ss spelled none (inr k) = absurd (none k.0 k.1 (ss, spelled, whole_fault (rendered (with_strict scene true) 0 ss) (missing k.0 k.1) k.2))

pub finishes_agree : FinishesAgree
finishes_agree scene r none = (
  λ h. (h.0, h.1, sym (same_whole scene h.0 h.1 none (rendered_agrees scene 0 h.0)) ∙ h.2),
  λ h. (h.0, h.1, same_whole scene h.0 h.1 none (rendered_agrees scene 0 h.0) ∙ h.2),
)

pub missing_is_empty : MissingIsEmpty
missing_is_empty scene next p precision read none = rw (read, none) refl
