-- Reading a source segment by segment, and that it gives one thing.
use Rattle.std.proofs.lemmas.List.{nil_from_length}
use Rattle.std.proofs.lemmas.List.Elements.{All-push}
use Rattle.std.proofs.Common.{subst, ◌≡◌, ◌⊎◌, inl, inr, ℕ, ◌+◌, ◌-◌, ◌<◌, ◌≤◌, Bool, true, false, List, [], ◌∷◌, ◌++◌, length, drop, get_or, Result, Ok, Err, refl, arith, rules, ap, ◌∙◌, sym}
use Rattle.std.specs.Prelude.{IsTrue, codes, if◌then◌else◌}
use Rattle.std.proofs.lemmas.Bool.Decides.{nat_tests}
use Rattle.formatx.specs.Fault.{Fault, Tells, between, unreadable, ◌>>=◌}
use Rattle.formatx.specs.Spans.{Fits, SegmentFits, Tiles}
use Rattle.formatx.specs.Inner.Ends.{IsEnd}
use Rattle.formatx.proofs.EndLemmas.{end_whole, end_trans, end_length}
use Rattle.formatx.specs.declared.error.Error.{Error}
use Rattle.formatx.specs.Words.{begins, after, is_plain}
use Rattle.formatx.specs.Options.{Read}
use Rattle.formatx.specs.Placeholders.{argument_of, spec_of, placeholder_of}
use Rattle.formatx.specs.Grammar.{is_single, IsSegment, SpellsTo, Spells, BeginsWithFault, HasFault}
use Rattle.formatx.specs.Laws.{HasOneReading}
use Rattle.formatx.specs.declared.ast.Span.{Span}
use Rattle.formatx.specs.declared.ast.Argument.{Argument}
use Rattle.formatx.specs.declared.ast.FormatSpec.{FormatSpec}
use Rattle.formatx.specs.declared.ast.Placeholder.{Placeholder}
use Rattle.formatx.specs.declared.ast.Segment.{Segment}
use Rattle.formatx.specs.declared.ast.Segment.TheVariants.{Literal, EscapedOpen, EscapedClose, Placeholder as Placed}

-- one segment more
pub spells_more : (size : ℕ) (ss : List Segment) (s : Segment) (a b c : List ℕ) → SpellsTo size ss a b → IsSegment size s b c → SpellsTo size (ss ++ s ∷ []) a c
spells_more size [] s a b c h one = (c, subst (λ (text : List ℕ). IsSegment size s text c) (sym h) one, refl)
spells_more size (t ∷ ts) s a b c h one = (h.0, h.1, spells_more size ts s h.0 b c h.2 one)

-- where a brace stands in front, the run without braces is empty
no_run : (text : List ℕ) → is_plain (get_or text 0 0) ≡ false → after is_plain text ≡ text
no_run [] h = refl
no_run (c ∷ cs) h = rw h refl

no_literal : (text rest : List ℕ) → is_plain (get_or text 0 0) ≡ false → rest ≡ after is_plain text → length rest < length text → ⊥
no_literal text rest brace is shorter = omega (arith, ap length (is ∙ no_run text brace))

-- the first byte of a text that begins with a single brace
single_first : (brace : ℕ) (text : List ℕ) → IsTrue (is_single brace text) → get_or text 0 0 ≡ brace
single_first brace text h = grind (arith, nat_tests)

brace_is_not_plain : (c : ℕ) → (c ≡ 123) ⊎ (c ≡ 125) → is_plain c ≡ false
brace_is_not_plain c (inl e) = rw e refl
brace_is_not_plain c (inr e) = rw e refl

-- a single brace isn't doubled
not_double : (brace : ℕ) (text rest : List ℕ) → text ≡ brace ∷ brace ∷ rest → IsTrue (is_single brace text) → ⊥
not_double brace text rest e h =
    let second : get_or (drop 1 text) 0 0 ≡ brace = ap (λ (xs : List ℕ). get_or (drop 1 xs) 0 0) e in
    grind (arith, nat_tests)

two_braces : (c : ℕ) → c ≡ 123 → c ≡ 125 → ⊥
two_braces c is_open is_close = omega arith

first_of_double : (brace : ℕ) (text rest : List ℕ) → text ≡ brace ∷ brace ∷ rest → get_or text 0 0 ≡ brace
first_of_double brace text rest e = ap (λ (xs : List ℕ). get_or xs 0 0) e

-- a text begins with one segment at most
segment_same : (size : ℕ) (s t : Segment) (text a b : List ℕ) → IsSegment size s text a → IsSegment size t text b → (s ≡ t) × (a ≡ b)
segment_same size (Literal x) (Literal y) text a b h k =
    let rests : a ≡ b = h.0 ∙ sym k.0 in
    let spans : x ≡ y = h.2 ∙ ap (λ (rest : List ℕ). between size text rest) rests ∙ sym k.2 in
    (ap (λ z. Literal z) spans, rests)
segment_same size (Literal x) EscapedOpen text a b h k = absurd (no_literal text a (brace_is_not_plain _ (inl (first_of_double 123 text b k))) h.0 h.1)
segment_same size (Literal x) EscapedClose text a b h k = absurd (no_literal text a (brace_is_not_plain _ (inr (first_of_double 125 text b k))) h.0 h.1)
segment_same size (Literal x) (Placed q) text a b h k = absurd (no_literal text a (brace_is_not_plain _ (inl (single_first 123 text k.0))) h.0 h.1)
segment_same size EscapedOpen (Literal y) text a b h k = absurd (no_literal text b (brace_is_not_plain _ (inl (first_of_double 123 text a h))) k.0 k.1)
segment_same size EscapedOpen EscapedOpen text a b h k = (refl, ap (λ (xs : List ℕ). drop 2 xs) (sym h ∙ k))
segment_same size EscapedOpen EscapedClose text a b h k = absurd (two_braces _ (first_of_double 123 text a h) (first_of_double 125 text b k))
segment_same size EscapedOpen (Placed q) text a b h k = absurd (not_double 123 text a h k.0)
segment_same size EscapedClose (Literal y) text a b h k = absurd (no_literal text b (brace_is_not_plain _ (inr (first_of_double 125 text a h))) k.0 k.1)
segment_same size EscapedClose EscapedOpen text a b h k = absurd (two_braces _ (first_of_double 123 text b k) (first_of_double 125 text a h))
segment_same size EscapedClose EscapedClose text a b h k = (refl, ap (λ (xs : List ℕ). drop 2 xs) (sym h ∙ k))
segment_same size EscapedClose (Placed q) text a b h k = absurd (two_braces _ (single_first 123 text k.0) (first_of_double 125 text a h))
segment_same size (Placed p) (Literal y) text a b h k = absurd (no_literal text b (brace_is_not_plain _ (inl (single_first 123 text h.0))) k.0 k.1)
segment_same size (Placed p) EscapedOpen text a b h k = absurd (not_double 123 text b k h.0)
segment_same size (Placed p) EscapedClose text a b h k = absurd (two_braces _ (single_first 123 text h.0) (first_of_double 125 text b k))
segment_same size (Placed p) (Placed q) text a b h k =
    let pairs : (p, a) ≡ (q, b) = ok_same _ _ (sym h.1 ∙ k.1) in
    (ap (λ (r : Placeholder × List ℕ). Placed r.0) pairs, ap (λ (r : Placeholder × List ℕ). r.1) pairs)
  where
    ok_same : (x y : Placeholder × List ℕ) → (let r : Result (Placeholder × List ℕ) Fault = Ok x in r) ≡ Ok y → x ≡ y
    ok_same x y e = cc

-- a text that begins with a fault begins with no segment
no_segment : (size : ℕ) (s : Segment) (text rest : List ℕ) (fault : Fault) → IsSegment size s text rest → BeginsWithFault size text fault → ⊥
no_segment size (Literal x) text rest fault h (inl k) = no_literal text rest (brace_is_not_plain _ (inr (single_first 125 text k.0))) h.0 h.1
no_segment size (Literal x) text rest fault h (inr k) = no_literal text rest (brace_is_not_plain _ (inl (single_first 123 text k.0))) h.0 h.1
no_segment size EscapedOpen text rest fault h (inl k) = two_braces _ (first_of_double 123 text rest h) (single_first 125 text k.0)
no_segment size EscapedOpen text rest fault h (inr k) = not_double 123 text rest h k.0
no_segment size EscapedClose text rest fault h (inl k) = not_double 125 text rest h k.0
no_segment size EscapedClose text rest fault h (inr k) = two_braces _ (single_first 123 text k.0) (first_of_double 125 text rest h)
no_segment size (Placed p) text rest fault h (inl k) = two_braces _ (single_first 123 text h.0) (single_first 125 text k.0)
no_segment size (Placed p) text rest fault h (inr k) = ok_is_not_err _ _ (sym h.1 ∙ k.1)
  where
    ok_is_not_err : (x : Placeholder × List ℕ) (f : Fault) → (let r : Result (Placeholder × List ℕ) Fault = Ok x in r) ≡ Err f → ⊥
    ok_is_not_err x f e = cc

-- nor does the end
no_segment_at_end : (size : ℕ) (s : Segment) (rest : List ℕ) → IsSegment size s [] rest → ⊥
no_segment_at_end size (Literal x) rest h = omega (arith, h.1)
no_segment_at_end size EscapedOpen rest h = cc
no_segment_at_end size EscapedClose rest h = cc
no_segment_at_end size (Placed p) rest h = let first : get_or [] 0 0 ≡ 123 = single_first 123 [] h.0 in omega (arith, first)

-- a text begins with one fault at most, and its end with none
fault_same : (size : ℕ) (text : List ℕ) (these those : Fault) → BeginsWithFault size text these → BeginsWithFault size text those → these ≡ those
fault_same size text these those (inl h) (inl k) = h.1 ∙ sym k.1
fault_same size text these those (inl h) (inr k) = absurd (two_braces _ (single_first 123 text k.0) (single_first 125 text h.0))
fault_same size text these those (inr h) (inl k) = absurd (two_braces _ (single_first 123 text h.0) (single_first 125 text k.0))
fault_same size text these those (inr h) (inr k) = err_same _ _ (sym h.1 ∙ k.1)
  where
    err_same : (f g : Fault) → (let r : Result (Placeholder × List ℕ) Fault = Err f in r) ≡ Err g → f ≡ g
    err_same f g e = cc

no_fault_at_end : (size : ℕ) (text : List ℕ) (fault : Fault) → text ≡ [] → BeginsWithFault size text fault → ⊥
no_fault_at_end size text fault e (inl h) = let first = single_first 125 text h.0 in omega (arith, first, ap (λ (xs : List ℕ). get_or xs 0 0) e)
no_fault_at_end size text fault e (inr h) = let first = single_first 123 text h.0 in omega (arith, first, ap (λ (xs : List ℕ). get_or xs 0 0) e)

-- no segment begins with the text
abbrev Stops : ℕ → List ℕ → Type 0
Stops size text = (s : Segment) (rest : List ℕ) → IsSegment size s text rest → ⊥

-- two readings up to where no segment begins are the same
spells_same : (size : ℕ) (ss ts : List Segment) (text a b : List ℕ) → SpellsTo size ss text a → SpellsTo size ts text b → Stops size a → Stops size b → (ss ≡ ts) × (a ≡ b)
spells_same size [] [] text a b h k stop stop' = (refl, sym h ∙ k)
spells_same size [] (t ∷ ts) text a b h k stop stop' = absurd (stop t k.0 (subst (λ (xs : List ℕ). IsSegment size t xs k.0) h k.1))
spells_same size (s ∷ ss) [] text a b h k stop stop' = absurd (stop' s h.0 (subst (λ (xs : List ℕ). IsSegment size s xs h.0) k h.1))
spells_same size (s ∷ ss) (t ∷ ts) text a b h k stop stop' =
    let first = segment_same size s t text h.0 k.0 h.1 k.1 in
    let rest = spells_same size ss ts k.0 a b (subst (λ (xs : List ℕ). SpellsTo size ss xs a) first.1 h.2) k.2 stop stop' in
    (cc, rest.1)

pub one_template : (source : List ℕ) (ss ts : List Segment) → Spells source ss → Spells source ts → ss ≡ ts
one_template source ss ts h k = (spells_same (length source) ss ts source [] [] h k (no_segment_at_end (length source)) (no_segment_at_end (length source))).0

pub one_reading : HasOneReading
one_reading source (Ok ss) (Ok ts) h k = ap (λ (xs : List Segment). let r : Result (List Segment) Fault = Ok xs in r) (one_template source ss ts h k)
one_reading source (Ok ss) (Err f) h k =
    let both = spells_same (length source) ss k.0 source [] k.1 h k.2 (no_segment_at_end (length source)) (λ s rest is. no_segment (length source) s k.1 rest f is k.3) in
    absurd (no_fault_at_end (length source) k.1 f (sym both.1) k.3)
one_reading source (Err f) (Ok ts) h k =
    let both = spells_same (length source) h.0 ts source h.1 [] h.2 k (λ s rest is. no_segment (length source) s h.1 rest f is h.3) (no_segment_at_end (length source)) in
    absurd (no_fault_at_end (length source) h.1 f both.1 h.3)
one_reading source (Err f) (Err g) h k =
    let both = spells_same (length source) h.0 k.0 source h.1 k.1 h.2 k.2 (λ s rest is. no_segment (length source) s h.1 rest f is h.3) (λ s rest is. no_segment (length source) s k.1 rest g is k.3) in
    let first = subst (λ (xs : List ℕ). BeginsWithFault (length source) xs f) both.1 h.3 in
    ap (λ (x : Fault). let r : Result (List Segment) Fault = Err x in r) (fault_same (length source) k.1 f g first k.3)

-- a source with a fault is no template
pub not_both : (source : List ℕ) (fault : Fault) (ss : List Segment) → HasFault source fault → Spells source ss → ⊥
not_both source fault ss h k = let same = one_reading source (Ok ss) (Err fault) k h in cc

-- a doubled brace in front
pub double_is : (brace : ℕ) (text rest : List ℕ) → 0 < brace → get_or text 0 0 ≡ brace → begins (drop 1 text) brace ≡ true → rest ≡ drop 1 (drop 1 text) → text ≡ brace ∷ brace ∷ rest
double_is brace [] rest some first second e = absurd (omega (arith, first))
double_is brace (c ∷ []) rest some first second e = absurd (let no : 0 ≡ brace = grind (arith, nat_tests) in omega (arith, no))
double_is brace (c ∷ d ∷ cs) rest some first second e =
    let second_is : d ≡ brace = grind (arith, nat_tests) in
    cc

-- a brace that isn't doubled
pub single_is : (brace : ℕ) (text : List ℕ) → get_or text 0 0 ≡ brace → begins (drop 1 text) brace ≡ false → IsTrue (is_single brace text)
single_is brace text first second = grind (arith, nat_tests)

-- what an error tells, of a wider kind
pub tells_wider : (e : Error) (P Q : Fault → Type 0) → ((fault : Fault) → P fault → Q fault) → Tells e P → Tells e Q
tells_wider e P Q wider (inl told) = inl (told.0, wider told.0 told.1, told.2)
tells_wider e P Q wider (inr none) = inr none

-- where some segments end, a fault is the first of the source
pub first_fault : (source rest : List ℕ) (ss : List Segment) (fault : Fault) → SpellsTo (length source) ss source rest → BeginsWithFault (length source) rest fault → HasFault source fault
first_fault source rest ss fault front first = (ss, rest, front, first)

-- where a segment stands
abbrev pub StandsAt : ℕ → ℕ → Segment → Type 0
StandsAt i j (Literal s) = (s.start ≡ i) × (s.end ≡ j)
StandsAt i j (Placed p) = (p.span.start ≡ i) × (p.span.end ≡ j)
StandsAt i j _ = j ≡ i + 2

-- one place more
pub tiles_more : (front : List Segment) (at i j : ℕ) (s : Segment) → Tiles i at front → StandsAt i j s → Tiles j at (front ++ s ∷ [])
tiles_more [] at i j (Literal x) h stands = (stands.0 ∙ sym h, stands.1)
tiles_more [] at i j EscapedOpen h stands = omega (arith, h, stands)
tiles_more [] at i j EscapedClose h stands = omega (arith, h, stands)
tiles_more [] at i j (Placed p) h stands = (stands.0 ∙ sym h, stands.1)
tiles_more (Literal x ∷ ts) at i j s h stands = (h.0, tiles_more ts x.end i j s h.1 stands)
tiles_more (EscapedOpen ∷ ts) at i j s h stands = tiles_more ts (at + 2) i j s h stands
tiles_more (EscapedClose ∷ ts) at i j s h stands = tiles_more ts (at + 2) i j s h stands
tiles_more (Placed p ∷ ts) at i j s h stands = (h.0, tiles_more ts p.span.end i j s h.1 stands)

ok_value : {A : Type 0} (x y : A) → (let r : Result A Fault = Ok x in r) ≡ Ok y → x ≡ y
ok_value x y e = cc

err_is_not_ok : {A : Type 0} (f : Fault) (y : A) → (let r : Result A Fault = Err f in r) ≡ Ok y → ⊥
err_is_not_ok f y e = cc

-- the placeholder of these parts, where its `}` follows them
abbrev closed : ℕ → List ℕ → Argument → FormatSpec × List ℕ → Read Placeholder
closed size text argument spec =
    if begins spec.1 125
    then Ok (record { argument = argument; spec = spec.0; span = between size text (drop 1 spec.1) }, drop 1 spec.1)
    else Err (unreadable (between size text spec.1) (codes "unmatched `{`"))

-- a placeholder's span reaches from its `{` to what follows it
placed_span : (size : ℕ) (text : List ℕ) (p : Placeholder) (rest : List ℕ) → placeholder_of size text ≡ Ok (p, rest) → p.span ≡ between size text rest
unfolding placeholder_of
placed_span size text p rest e = by_argument (argument_of size (drop 1 text)) e
  where
    by_close : (argument : Argument) (spec : FormatSpec) (end : List ℕ) (b : Bool) → begins end 125 ≡ b → closed size text argument (spec, end) ≡ Ok (p, rest) → p.span ≡ between size text rest
    by_close argument spec end true there e =
        let is = ok_value _ _ (rw there at e) in
        sym (ap (λ (r : Placeholder × List ℕ). r.0.span) is) ∙ ap (λ (r : Placeholder × List ℕ). between size text r.1) is
    by_close argument spec end false there e = absurd (err_is_not_ok _ _ (rw there at e))

    by_spec : (argument : Argument) (r : Result (FormatSpec × List ℕ) Fault) → (r >>= λ spec. closed size text argument spec) ≡ Ok (p, rest) → p.span ≡ between size text rest
    by_spec argument (Ok (spec, end)) e = by_close argument spec end (begins end 125) refl e
    by_spec argument (Err f) e = absurd (err_is_not_ok f _ e)

    by_argument : (r : Result (Argument × List ℕ) Fault) → (r >>= λ argument. spec_of size argument.1 >>= λ spec. closed size text argument.0 spec) ≡ Ok (p, rest) → p.span ≡ between size text rest
    by_argument (Ok (argument, more)) e = by_spec argument (spec_of size more) e
    by_argument (Err f) e = absurd (err_is_not_ok f _ e)

-- a segment stands where its text does
pub stands : (size : ℕ) (s : Segment) (text rest : List ℕ) → length text ≤ size → IsSegment size s text rest → StandsAt (size - length text) (size - length rest) s
stands size (Literal x) text rest inside h = (ap (λ (s : Span). s.start) h.2, ap (λ (s : Span). s.end) h.2)
stands size EscapedOpen text rest inside h = omega (arith, ap length h)
stands size EscapedClose text rest inside h = omega (arith, ap length h)
stands size (Placed p) text rest inside h = let is = placed_span size text p rest h.1 in (ap (λ (s : Span). s.start) is, ap (λ (s : Span). s.end) is)

-- some segments, whose spans fit the source, spell it up to the rest
pub record IsReadTo (source rest : List ℕ) (ss : List Segment) : Type 0 where
  pub end : IsEnd source rest
  pub spelled : SpellsTo (length source) ss source rest
  pub fits : Fits source ss
  pub tiles : Tiles (length source - length rest) 0 ss

pub read_nothing : (source : List ℕ) → IsReadTo source source []
read_nothing source = record { end = end_whole source; spelled = refl; fits = search rules; tiles = omega arith }

pub read_more : (source rest next : List ℕ) (ss : List Segment) (s : Segment) → IsReadTo source rest ss → IsEnd rest next → IsSegment (length source) s rest next → SegmentFits source s → IsReadTo source next (ss ++ s ∷ [])
read_more source rest next ss s h end is fits = record {
  end = end_trans h.end end;
  spelled = spells_more (length source) ss s source rest next h.spelled is;
  fits = All-push (SegmentFits source) ss s h.fits fits;
  tiles = tiles_more ss 0 (length source - length rest) (length source - length next) s h.tiles (stands (length source) s rest next (end_length h.end) is);
}

-- where nothing is left, the source is read
pub read_all : (source rest : List ℕ) (ss : List Segment) → IsReadTo source rest ss → length rest ≡ 0 → Spells source ss × Tiles (length source) 0 ss
read_all source rest ss h none =
    let nil : rest ≡ [] = nil_from_length rest none in
    let whole : length source - length rest ≡ length source = omega (arith, none) in
    (subst (λ (xs : List ℕ). SpellsTo (length source) ss source xs) nil h.spelled, subst (λ (n : ℕ). Tiles n 0 ss) whole h.tiles)
