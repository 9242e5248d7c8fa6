-- Lemmas on told bytes, on fronts, and on results.
use Rattle.std.proofs.Common.{◌≡◌, ◌+◌, ◌≤◌, ◌++◌, ℕ, List, [], length, take, sym, ◌∙◌, ap, subst, inl, inr, arith, length-append, append_assoc, append-nil, Option, Some, None, Result, Ok, Err, OnOk, IfOk, IfErr, IfSome, IsErrOf}
use Rattle.std.proofs.Math.Seq.{take-append-add}
use Rattle.std.proofs.lemmas.List.{take-append-le}
use Rattle.std.specs.Io.KnownBytes.{Appends, Consumes, IsAtEnd}
use Rattle.std.proofs.KnownBytes.{Appends-trans}
use Rattle.edge_io.specs.Ends.{AppendsFront}
use Rattle.whiteread.specs.Lines.{HasNoFeed, IsFirstLine}
use Rattle.line_job.specs.declared.stop.Stop.{Stop}
use Rattle.line_job.specs.Stop.{IsOfLines}

-- results

pub on_ok : {T E A B : Type 0} (r : Result T E) → (A → B) → OnOk r A → OnOk r B
on_ok (Ok t) f h = f h
on_ok (Err e) f h = tt

pub always : {T E A : Type 0} (r : Result T E) → A → OnOk r A
always (Ok t) h = h
always (Err e) h = tt

pub if_ok : {T E : Type 0} (r : Result T E) (P Q : T → Type 0) → ((t : T) → P t → Q t) → IfOk r P → IfOk r Q
if_ok (Ok t) P Q f h = f t h
if_ok (Err e) P Q f h = tt

pub if_err : {T E : Type 0} (r : Result T E) (P Q : E → Type 0) → ((e : E) → P e → Q e) → IfErr r P → IfErr r Q
if_err (Ok t) P Q f h = tt
if_err (Err e) P Q f h = f e h

abbrev pub refusal : {Why : Type 0} → Stop Why → Result ℕ (Stop Why)
refusal stop = Err stop

pub no_refusal : {Why : Type 0} (stop other : Stop Why) → IsOfLines stop → ¬ IsOfLines other → ¬ IsErrOf (refusal stop) other
no_refusal stop other here not e = let same : stop ≡ other = cc in not (subst IsOfLines same here)

-- told bytes

pub moves : (r0 r1 : Option (List ℕ)) (w0 w1 line got : List ℕ) (P Q : List ℕ → Type 0) → Consumes r0 r1 got → w0 ++ got ≡ line ++ w1 → IsFirstLine line w1 → (HasNoFeed line → IsAtEnd r1)
    → ((bytes : List ℕ) → IsFirstLine line bytes → P bytes → Q (line ++ bytes)) → IfSome r1 (λ bytes. P (w1 ++ bytes)) → IfSome r0 (λ bytes. Q (w0 ++ bytes))
moves None r1 w0 w1 line got P Q eaten cut first unended goes here = tt
moves (Some xs) None w0 w1 line got P Q eaten cut first unended goes here = absurd eaten
moves (Some xs) (Some ys) w0 w1 line got P Q eaten cut first unended goes here =
    let same : w0 ++ xs ≡ line ++ (w1 ++ ys) = ap (λ (t : List ℕ). w0 ++ t) eaten ∙ sym (append_assoc w0 got ys) ∙ ap (λ (t : List ℕ). t ++ ys) cut ∙ append_assoc line w1 ys in
    let still : IsFirstLine line (w1 ++ ys) = elim first [
      | inl whole ↦ inl whole
      | inr last ↦ inr (last.0, ap (λ (t : List ℕ). t ++ ys) last.1 ∙ unended last.0.1)
    ] in
    subst Q (sym same) (goes (w1 ++ ys) still here)

-- a line was taken, and nothing is known of what follows
pub line_is : (r0 r1 : Option (List ℕ)) (w0 w1 line got : List ℕ) (Q : List ℕ → Type 0) → Consumes r0 r1 got → w0 ++ got ≡ line ++ w1 → IsFirstLine line w1 → (HasNoFeed line → IsAtEnd r1)
    → ((bytes : List ℕ) → IsFirstLine line bytes → Q (line ++ bytes)) → IfSome r0 (λ bytes. Q (w0 ++ bytes))
line_is None r1 w0 w1 line got Q eaten cut first unended goes = tt
line_is (Some xs) None w0 w1 line got Q eaten cut first unended goes = absurd eaten
line_is (Some xs) (Some ys) w0 w1 line got Q eaten cut first unended goes =
    moves (Some xs) (Some ys) w0 w1 line got (λ bytes. Unit {0}) Q eaten cut first unended (λ bytes still any. goes bytes still) tt

pub waits_is : (r0 r1 : Option (List ℕ)) (w0 w1 got : List ℕ) (Q : List ℕ → Type 0) → Consumes r0 r1 got → w1 ≡ w0 ++ got → ((bytes : List ℕ) → Q (w1 ++ bytes)) → IfSome r0 (λ bytes. Q (w0 ++ bytes))
waits_is None r1 w0 w1 got Q eaten is goes = tt
waits_is (Some xs) None w0 w1 got Q eaten is goes = absurd eaten
waits_is (Some xs) (Some ys) w0 w1 got Q eaten is goes =
    let same : w0 ++ xs ≡ w1 ++ ys = ap (λ (t : List ℕ). w0 ++ t) eaten ∙ sym (append_assoc w0 got ys) ∙ ap (λ (t : List ℕ). t ++ ys) (sym is) in
    subst Q (sym same) (goes ys)

pub passes_is : (r0 r1 : Option (List ℕ)) (w0 w1 got probe : List ℕ) (Q : List ℕ → Type 0) → Consumes r0 r1 (got ++ probe) → w1 ≡ w0 ++ got → ((bytes : List ℕ) → Q (w1 ++ (probe ++ bytes))) → IfSome r0 (λ bytes. Q (w0 ++ bytes))
passes_is None r1 w0 w1 got probe Q eaten is goes = tt
passes_is (Some xs) None w0 w1 got probe Q eaten is goes = absurd eaten
passes_is (Some xs) (Some ys) w0 w1 got probe Q eaten is goes =
    let same : w0 ++ xs ≡ w1 ++ (probe ++ ys) = ap (λ (t : List ℕ). w0 ++ t) (eaten ∙ append_assoc got probe ys) ∙ sym (append_assoc w0 got (probe ++ ys)) ∙ ap (λ (t : List ℕ). t ++ (probe ++ ys)) (sym is) in
    subst Q (sym same) (goes ys)

pub none_is : (r0 r1 : Option (List ℕ)) (w0 : List ℕ) (Q : List ℕ → Type 0) → Consumes r0 r1 [] → w0 ≡ [] → IsAtEnd r1 → Q [] → IfSome r0 (λ bytes. Q (w0 ++ bytes))
none_is None r1 w0 Q eaten none end here = tt
none_is (Some xs) None w0 Q eaten none end here = absurd eaten
none_is (Some xs) (Some ys) w0 Q eaten none end here =
    let same : w0 ++ xs ≡ [] = ap (λ (t : List ℕ). t ++ xs) none ∙ eaten ∙ end in
    subst Q (sym same) here

pub any_is : (r0 : Option (List ℕ)) (P : List ℕ → Type 0) → ((bytes : List ℕ) → P bytes) → IfSome r0 P
any_is None P here = tt
any_is (Some xs) P here = here xs

pub maps : (r0 : Option (List ℕ)) (P Q : List ℕ → Type 0) → ((bytes : List ℕ) → P bytes → Q bytes) → IfSome r0 P → IfSome r0 Q
maps None P Q f h = tt
maps (Some xs) P Q f h = f xs h

pub both : (r0 : Option (List ℕ)) (P Q R : List ℕ → Type 0) → ((bytes : List ℕ) → P bytes → Q bytes → R bytes) → IfSome r0 P → IfSome r0 Q → IfSome r0 R
both None P Q R f p q = tt
both (Some xs) P Q R f p q = f xs p q

-- output

take_front : (n : ℕ) (a b : List ℕ) → n ≤ length a → take n (a ++ b) ≡ take n a
take_front n a b le = take-append-le n a b le

pub some_front : (held held' : Option (List ℕ)) (a b : List ℕ) → AppendsFront held held' a → AppendsFront held held' (a ++ b)
some_front held held' a b front =
    let n : ℕ = front.0 in
    let le : n ≤ length a = front.1 in
    (n, omega (arith, le, length-append a b), subst (λ (t : List ℕ). Appends held held' t) (sym (take_front n a b le)) front.2)

pub front_after : (held mid held' : Option (List ℕ)) (a b : List ℕ) → Appends held mid a → AppendsFront mid held' b → AppendsFront held held' (a ++ b)
front_after held mid held' a b sent front =
    let n : ℕ = front.0 in (
      length a + n,
      omega (arith, front.1, length-append a b),
      subst (λ (t : List ℕ). Appends held held' t) (sym (take-append-add a b n)) (Appends-trans held mid held' a (take n b) sent front.2),
    )

-- what grew by a text and no more
pub grew_nil : (held held' : Option (List ℕ)) (a : List ℕ) → Appends held held' a → Appends held held' (a ++ [])
grew_nil held held' a h = subst (λ (t : List ℕ). Appends held held' t) (sym (append-nil a)) h

pub grew_assoc : (held held' : Option (List ℕ)) (a b c : List ℕ) → Appends held held' ((a ++ b) ++ c) → Appends held held' (a ++ (b ++ c))
grew_assoc held held' a b c h = subst (λ (t : List ℕ). Appends held held' t) (append_assoc a b c) h

pub front_assoc : (held held' : Option (List ℕ)) (a b c : List ℕ) → AppendsFront held held' ((a ++ b) ++ c) → AppendsFront held held' (a ++ (b ++ c))
front_assoc held held' a b c h = subst (λ (t : List ℕ). AppendsFront held held' t) (append_assoc a b c) h
