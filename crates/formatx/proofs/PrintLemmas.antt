-- Printing a template segment by segment.
use Rattle.std.proofs.Common.{◌≡◌, ℕ, suc, ◌+◌, ◌<◌, List, [], ◌∷◌, ◌++◌, inl, inr, length, take, drop, get_or, Some, None, Err, refl, ap, ◌∙◌, sym, subst, append_assoc}
use Rattle.std.proofs.Math.Seq.{drop-cons, take-append_seam}
use Rattle.std.proofs.lemmas.List.{append-nil}
use Rattle.formatx.specs.Fault.{Fault, IsFault, Tells}
use Rattle.formatx.specs.Scene.{Scene}
use Rattle.formatx.specs.Values.{Extends}
use Rattle.formatx.specs.Text.{Outcome, Appends, Holds, continued, rendered, segment_takes, segment_text, whole}
use Rattle.formatx.specs.declared.ast.Segment.{Segment}
use Rattle.formatx.specs.declared.error.Error.{Error}
use Rattle.formatx.specs.declared.error.Error.TheVariants.{Parse, MissingArgument, UnsupportedTrait, NoMemory}

-- the output has grown by some text, and what is left makes it the text of all
pub record IsPrinted (old now : List ℕ) (all left : Outcome) : Type 0 where
  pub done : List ℕ
  pub now_is : now ≡ old ++ done
  pub text : all.text ≡ done ++ left.text
  pub fault : all.fault ≡ left.fault

-- before the first segment
pub print_nothing : (old : List ℕ) (all : Outcome) → IsPrinted old old all all
print_nothing old all = record { done = []; now_is = sym (append-nil old); text = refl; fault = refl }

-- one segment more
pub print_segment : (old now new : List ℕ) (all : Outcome) (scene : Scene) (next : ℕ) (s : Segment) (ss : List Segment) → IsPrinted old now all (rendered scene next (s ∷ ss)) → Appends (segment_text scene next s) now new → IsPrinted old new all (rendered scene (next + segment_takes s) ss)
print_segment old now new all scene next s ss h added =
    let rest = rendered scene (next + segment_takes s) ss in
    let text : all.text ≡ h.done ++ (continued (segment_text scene next s) rest).text = h.text in
    let fault : all.fault ≡ (continued (segment_text scene next s) rest).fault = h.fault in
    record {
      done = h.done ++ added.0;
      now_is = added.2 ∙ ap (λ (xs : List ℕ). xs ++ added.0) h.now_is ∙ append_assoc old h.done added.0;
      text = rw added.1 at text ∙ sym (append_assoc h.done added.0 rest.text);
      fault = rw added.1 at fault;
    }

-- a segment's fault is that of all
pub whole_fault : (all : Outcome) (fault : Fault) → all.fault ≡ Some fault → whole all ≡ Err fault
whole_fault all fault e = rw e refl

stopped : (old now : List ℕ) (all : Outcome) (scene : Scene) (next : ℕ) (s : Segment) (ss : List Segment) (fault : Fault) → IsPrinted old now all (rendered scene next (s ∷ ss)) → segment_text scene next s ≡ Err fault → (all.fault ≡ Some fault) × (now ≡ old ++ all.text)
stopped old now all scene next s ss fault h e =
    let rest = rendered scene (next + segment_takes s) ss in
    let text : all.text ≡ h.done ++ (continued (segment_text scene next s) rest).text = h.text in
    let last : all.fault ≡ (continued (segment_text scene next s) rest).fault = h.fault in
    let short : all.text ≡ h.done = rw e at text ∙ append-nil h.done in
    (rw e at last, h.now_is ∙ ap (λ (xs : List ℕ). old ++ xs) (sym short))

holds_fault : (e : Error) (fault : Fault) (old now text : List ℕ) → IsFault e fault → now ≡ old ++ text → Holds e old now text
holds_fault (Parse at message) fault old now text is h = h
holds_fault (MissingArgument name at) fault old now text is h = h
holds_fault (UnsupportedTrait t at) fault old now text is h = h
holds_fault NoMemory fault old now text is h = absurd is

print_fault : (old now : List ℕ) (all : Outcome) (scene : Scene) (next : ℕ) (s : Segment) (ss : List Segment) (e : Error) → IsPrinted old now all (rendered scene next (s ∷ ss)) → Tells e (λ fault. segment_text scene next s ≡ Err fault) → Tells e (λ fault. all.fault ≡ Some fault) × Holds e old now all.text
print_fault old now all scene next s ss e h (inl told) =
    let r = stopped old now all scene next s ss told.0 h told.1 in (inl (told.0, r.0, told.2), holds_fault e told.0 old now all.text told.2 r.1)
print_fault old now all scene next s ss e h (inr none) =
    let front : Holds NoMemory old now all.text = (h.done, (rendered scene next (s ∷ ss)).text, h.now_is, h.text) in
    (inr none, subst (λ (x : Error). Holds x old now all.text) (sym none) front)

-- after the last segment
pub print_all : (old now : List ℕ) (all : Outcome) (scene : Scene) (next : ℕ) → IsPrinted old now all (rendered scene next []) → Appends (whole all) old now
print_all old now all scene next h =
    let ended : all.fault ≡ None = h.fault in
    let short : all.text ≡ h.done = h.text ∙ append-nil h.done in
    (all.text, rw ended refl, h.now_is ∙ ap (λ (xs : List ℕ). old ++ xs) (sym short))

-- the same of the segment at a place of the list
pub print_fault_at : (old now : List ℕ) (all : Outcome) (scene : Scene) (next : ℕ) (ss : List Segment) (i : ℕ) (d : Segment) (e : Error) → IsPrinted old now all (rendered scene next (drop i ss)) → i < length ss → Tells e (λ fault. segment_text scene next (get_or ss i d) ≡ Err fault) → Tells e (λ fault. all.fault ≡ Some fault) × Holds e old now all.text
print_fault_at old now all scene next ss i d e h inside told =
    print_fault old now all scene next (get_or ss i d) (drop (suc i) ss) e (subst (λ (xs : List Segment). IsPrinted old now all (rendered scene next xs)) (drop-cons ss i d inside) h) told

-- whatever stands after a refusal, the output begins with what stood there before
pub holds_extends : (e : Error) (old new text : List ℕ) → Holds e old new text → Extends old new
holds_extends (Parse at message) old new text h = (text, h)
holds_extends (MissingArgument name at) old new text h = (text, h)
holds_extends (UnsupportedTrait t at) old new text h = (text, h)
holds_extends NoMemory old new text h = (h.0, h.2)

-- taking back what was added
pub taken_back : (old new after : List ℕ) → Extends old new → after ≡ take (length old) new → after ≡ old
taken_back old new after h e = e ∙ ap (take (length old)) h.1 ∙ take-append_seam old h.0
