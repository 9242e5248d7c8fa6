-- A walk whose calls fill each pattern by the meaning of its key prints the text.
use Rattle.std.proofs.Common.{◌≡◌, ◌⊎◌, inl, inr, ℕ, List, [], ◌∷◌, refl, sym, ap, subst, Bool, false, Option, Some, None, Result, Ok, Err}
use Rattle.std.specs.Prelude.{IfOk, IfErr, IsErrAnd, IsOkAnd, IsUtf8, ◌++◌}
use Rattle.std.specs.Borrow.{MutBor}
use Rattle.std.specs.Fn.{Mut, CalledAtMut}
use Rattle.std.specs.HashMap.{HashMap, get_by}
use Rattle.std.specs.Map.{lookup}
use Rattle.numerals.specs.Answer.{IsAnswerBy}
use Rattle.strfmt.specs.declared.types.FmtError.{FmtError}
use Rattle.strfmt.specs.declared.types.FmtError.TheVariants.{NoMemory}
use Rattle.strfmt.specs.Fault.{Fault, Outcome, IsFault, fault_of}
use Rattle.strfmt.specs.Spec.{View}
use Rattle.strfmt.specs.Grammar.{Piece, ordinary, escape, pattern, Break, cause_of}
use Rattle.strfmt.specs.Text.{Meaning, IsPrinted, filled_by, then_next, joined}
use Rattle.strfmt.specs.Values.{Displays}
use Rattle.strfmt.specs.Walk.{Walked, GoesOn, Walks, IsWalk}
use Rattle.strfmt.proofs.CutUnique.{prints_some}
use Rattle.strfmt.proofs.SegmentLemmas.{walked_after}

-- the formatter without text
abbrev blank : View → View
blank view = record view { text = [] }

abbrev Answer : Type 0
Answer = Result (Unit {0}) FmtError

-- the walk's answer is this outcome, or there was no memory
abbrev Gives : Outcome → Walked → Type 0
Gives outcome answer = IsAnswerBy (λ (text : List ℕ). text) IsFault NoMemory outcome answer

gives_after : (front : List ℕ) (outcome : Outcome) (more : Walked) → Gives outcome more → Gives (then_next (Ok front) outcome) (walked_after front more)
gives_after front outcome (Ok text) h = ap (λ (o : Outcome). then_next (Ok front) o) h
gives_after front outcome (Err error) (inl it) = inl (it.0, ap (λ (o : Outcome). then_next (Ok front) o) it.1, it.2)
gives_after front outcome (Err error) (inr memory) = inr memory

refused_gives : (fault : Fault) (answer : Walked) → IsErrAnd answer (λ error. IsFault error fault) → Gives (Err fault) answer
refused_gives fault (Ok text) h = absurd h
refused_gives fault (Err error) h = inl (fault, refl, h)

error_gives : (outcome tail : Outcome) (error : FmtError) → Gives outcome (Err error) → Gives (then_next outcome tail) (Err error)
error_gives outcome tail error (inl it) = inl (it.0, ap (λ (o : Outcome). then_next o tail) it.1, it.2)
error_gives outcome tail error (inr memory) = inr memory

text_gives : (outcome tail : Outcome) (view left : View) (more : Walked) → IsOkAnd outcome (λ (text : List ℕ). left.text ≡ (blank view).text ++ text) → Gives tail more → Gives (then_next outcome tail) (walked_after left.text more)
text_gives (Ok text) tail view left more added h = subst (λ (bs : List ℕ). Gives (then_next (Ok text) tail) (walked_after bs more)) (sym added) (gives_after text tail more h)
text_gives (Err fault) tail view left more added h = absurd added

-- a meaning doesn't look at what was written
filled_blank : (meaning : Option Meaning) (view : View) → filled_by meaning (blank view) ≡ filled_by meaning view
filled_blank None view = refl
filled_blank (Some meaning) view = refl

module _ {F : Type 0} (g : Mut F (MutBor View × Unit {0}) (Answer × (MutBor View × Unit {0}))) (f : F) (meanings : List ℕ → Option Meaning)
    (each : (view left : View) (answer : Answer) (f' : F) → CalledAtMut g f view answer f' left → (f' ≡ f) × Displays (filled_by (meanings view.key) view) view answer left) where
  call_prints : (view left : View) (given : Answer) (f' last : F) (rest : F → Walked → F → Type 0) (tail : Outcome) (answer : Walked) → ((more : Walked) → rest f more last → Gives tail more)
      → (f' ≡ f) × Displays (filled_by (meanings view.key) (blank view)) (blank view) given left → GoesOn g given left f' rest answer last → Gives (then_next (filled_by (meanings view.key) view) tail) answer
  call_prints view left (Err error) f' last rest tail answer later h goes =
      let P : Outcome → Type 0 = λ o. Gives o (Err error) in
      subst (Gives (then_next (filled_by (meanings view.key) view) tail)) (sym goes.0)
      (error_gives (filled_by (meanings view.key) view) tail error (subst P (filled_blank (meanings view.key) view) h.1))
  call_prints view left (Ok done) f' last rest tail answer later h goes =
      let P : F → Type 0 = λ s. rest s goes.0 last in
      let Q : Outcome → Type 0 = λ o. IsOkAnd o (λ (text : List ℕ). left.text ≡ (blank view).text ++ text) in
      subst (Gives (then_next (filled_by (meanings view.key) view) tail)) (sym goes.2)
      (text_gives (filled_by (meanings view.key) view) tail view left goes.0 (subst Q (filled_blank (meanings view.key) view) h.1) (later goes.0 (subst P h.0 goes.1)))

  walks_print : (pieces : List Piece) (stop : Option Break) (answer : Walked) (last : F) → Walks g f pieces stop answer last → Gives (joined meanings pieces stop) answer
  walks_print [] None answer last h = subst (Gives (Ok [])) (sym h.0) refl
  walks_print [] (Some break) answer last h = refused_gives (fault_of (cause_of break)) answer h.0
  walks_print (ordinary b ∷ pieces) stop answer last h =
      subst (Gives (then_next (Ok (b ∷ [])) (joined meanings pieces stop))) (sym h.2) (gives_after (b ∷ []) (joined meanings pieces stop) h.0 (walks_print pieces stop h.0 last h.1))
  walks_print (escape b ∷ pieces) stop answer last h =
      subst (Gives (then_next (Ok (b ∷ [])) (joined meanings pieces stop))) (sym h.2) (gives_after (b ∷ []) (joined meanings pieces stop) h.0 (walks_print pieces stop h.0 last h.1))
  walks_print (pattern view ∷ pieces) stop answer last h =
      call_prints view h.1 h.0 h.2 last (λ s. Walks g s pieces stop) (joined meanings pieces stop) answer (λ more w. walks_print pieces stop more last w) (each (blank view) h.1 h.0 h.2 h.3) h.4

  -- a call that walks over a text prints it
  pub printed : {S : Type 0} (bytes : S → List ℕ) (text : List ℕ) (result : Result S FmtError) → IsUtf8 text → IfOk result (λ s. (last : F) × IsWalk g f text (Ok (bytes s)) last)
      → IfErr result (λ e. (e ≡ NoMemory) ⊎ ((last : F) × IsWalk g f text (Err e) last)) → IsPrinted bytes meanings text result
  printed bytes text (Ok s) u ok err =
      let w = ok.1 in
      (joined meanings w.0 w.1, (w.0, w.1, w.2, refl), walks_print w.0 w.1 (Ok (bytes s)) ok.0 w.3)
  printed bytes text (Err error) u ok (inl memory) = let some = prints_some meanings text u in (some.0, some.1, inr memory)
  printed bytes text (Err error) u ok (inr walk) =
      let w = walk.1 in
      (joined meanings w.0 w.1, (w.0, w.1, w.2, refl), walks_print w.0 w.1 (Err error) walk.0 w.3)

-- what a call shows and leaves is the same through its references
pub filled_at : (meanings : List ℕ → Option Meaning) (view shown left leaves : View) (answer : Answer) → shown ≡ view → leaves ≡ left
    → Displays (filled_by (meanings shown.key) shown) shown answer leaves → Displays (filled_by (meanings view.key) view) view answer left
filled_at meanings view shown left leaves answer s l h =
    let P : View → Type 0 = λ v. Displays (filled_by (meanings v.key) v) v answer left in
    let Q : View → Type 0 = λ v. Displays (filled_by (meanings shown.key) shown) shown answer v in
    subst P s (subst Q l h)

-- nothing is found where no key passes
found_none : {K D : Type 0} (test : K → Bool) (entries : List (K × D)) → ((key : K) → test key ≡ false) → lookup test entries ≡ None
found_none test [] h = refl
found_none test (entry ∷ entries) h = rw (h entry.0) (found_none test entries h)

pub get_none : {K D S : Type 0} (test : K → Bool) (vars : HashMap K D S) → ((key : K) → test key ≡ false) → get_by test vars ≡ None
get_none test vars h = found_none test vars.entries h
