-- A text is cut in one way.
use Rattle.std.proofs.Common.{◌≡◌, ◌≢◌, inl, inr, ℕ, ◌≤◌, List, [], ◌∷◌, ◌++◌, refl, arith, sym, ◌∙◌, ap, Option, Some, None, Result, Ok, Err, subst}
use Rattle.std.specs.Prelude.{slice_index, eqb, if◌then◌else◌, IsUtf8}
use Rattle.std.proofs.lemmas.Bool.{ne_eqb}
use Rattle.strfmt.specs.declared.cause.Cause.{Cause}
use Rattle.strfmt.specs.Spec.{View}
use Rattle.strfmt.specs.Grammar.Pattern.{IsRead}
use Rattle.strfmt.specs.Grammar.{Piece, ordinary, escape, pattern, IsBrace, IsNoBrace, HasNoBrace, BeginsWithPattern, IsPiece, Break, lone, nested, unclosed, refused, BeginsWith, IsCut}
use Rattle.strfmt.specs.Fault.{Outcome}
use Rattle.strfmt.specs.Text.{Meaning, Prints, joined}
use Rattle.strfmt.proofs.ReadLemmas.{read_once}
use Rattle.strfmt.proofs.CutExists.{cut_of}

no_brace : (b : ℕ) → IsBrace b → IsNoBrace b → ⊥
no_brace b (inl e) n = n.0 e
no_brace b (inr e) n = n.1 e

-- two fronts without braces, each with a brace after it, are one
record Same (a b : List ℕ) (x y : ℕ) (r s : List ℕ) : Type 0 where
  fronts : a ≡ b
  braces : x ≡ y
  rests : r ≡ s

same_front : (a b : List ℕ) (x y : ℕ) (r s : List ℕ) → HasNoBrace a → HasNoBrace b → IsBrace x → IsBrace y → a ++ x ∷ r ≡ b ++ y ∷ s → Same a b x y r s
same_front [] [] x y r s na nb bx by e = record { fronts = refl; braces = cc; rests = cc }
same_front [] (c ∷ cs) x y r s na nb bx by e =
    let h : x ≡ c = cc in
    absurd (no_brace c (subst IsBrace h bx) nb.0)
same_front (c ∷ cs) [] x y r s na nb bx by e =
    let h : y ≡ c = cc in
    absurd (no_brace c (subst IsBrace h by) na.0)
same_front (c ∷ cs) (d ∷ ds) x y r s na nb bx by e =
    let tail : cs ++ x ∷ r ≡ ds ++ y ∷ s = cc in
    let first : c ≡ d = cc in
    let it = same_front cs ds x y r s na.1 nb.1 bx by tail in
    record { fronts = ap (λ (z : ℕ). z ∷ cs) first ∙ ap (λ (zs : List ℕ). d ∷ zs) it.fronts; braces = it.braces; rests = it.rests }

-- no brace stands in a text without braces
brace_within : (b : List ℕ) (y : ℕ) (s : List ℕ) → HasNoBrace (b ++ y ∷ s) → IsBrace y → ⊥
brace_within [] y s n brace = no_brace y brace n.0
brace_within (c ∷ cs) y s n brace = brace_within cs y s n.1 brace

-- what stands in front: nothing, a byte, a doubled brace, a pattern as it reads, or a wrong brace
data Head : Type 0 where
  nothing : Head
  byte : ℕ → Head
  twice : ℕ → Head
  inside : Result View Cause → Head
  wrong : Break → Head

abbrev IsHead : Head → List ℕ → List ℕ → Type 0
IsHead nothing text rest = (text ≡ []) × (rest ≡ [])
IsHead (byte b) text rest = IsNoBrace b × (text ≡ b ∷ rest)
IsHead (twice b) text rest = IsBrace b × (text ≡ b ∷ b ∷ rest)
IsHead (inside read) text rest = (inner : List ℕ) × BeginsWithPattern inner text rest × IsRead inner read
IsHead (wrong lone) text rest = BeginsWith lone text × (rest ≡ [])
IsHead (wrong nested) text rest = BeginsWith nested text × (rest ≡ [])
IsHead (wrong unclosed) text rest = BeginsWith unclosed text × (rest ≡ [])
IsHead (wrong (refused cause)) text rest = ⊥

-- the kind of a head, and that of a text
abbrev kind : Head → ℕ
kind nothing = 0
kind (byte b) = 1
kind (twice b) = 2
kind (inside read) = 3
kind (wrong lone) = 4
kind (wrong nested) = 3
kind (wrong unclosed) = 3
kind (wrong (refused cause)) = 3

abbrev kind_of : List ℕ → ℕ
kind_of [] = 0
kind_of (b ∷ bs) =
    if eqb b 123 then (if eqb (slice_index bs 0) 123 then 2 else 3)
    else (if eqb b 125 then (if eqb (slice_index bs 0) 125 then 2 else 4) else 1)

opening : (bs : List ℕ) → slice_index bs 0 ≢ 123 → kind_of (123 ∷ bs) ≡ 3
opening bs h = rw (ne_eqb (slice_index bs 0) 123 h) refl

inner_first : (inner : List ℕ) (r : List ℕ) → HasNoBrace inner → slice_index (inner ++ 125 ∷ r) 0 ≢ 123
inner_first [] r n = λ e. absurd (omega (arith, e))
inner_first (c ∷ cs) r n = n.0.0

front_first : (inner : List ℕ) (r : List ℕ) → HasNoBrace inner → inner ≢ [] → slice_index (inner ++ r) 0 ≢ 123
front_first [] r n some = absurd (some refl)
front_first (c ∷ cs) r n some = n.0.0

alone_first : (inner : List ℕ) → HasNoBrace inner → slice_index inner 0 ≢ 123
alone_first [] n = λ e. absurd (omega (arith, e))
alone_first (c ∷ cs) n = n.0.0

twice_kind : (b : ℕ) (rest : List ℕ) → IsBrace b → kind_of (b ∷ b ∷ rest) ≡ 2
twice_kind b rest (inl e) = rw e refl
twice_kind b rest (inr e) = rw e refl

kind_at : (head : Head) (text rest : List ℕ) → IsHead head text rest → kind_of text ≡ kind head
kind_at nothing text rest h = ap kind_of h.0
kind_at (byte b) text rest h = ap kind_of h.1 ∙ rw (ne_eqb b 123 h.0.0, ne_eqb b 125 h.0.1) refl
kind_at (twice b) text rest h = ap kind_of h.1 ∙ twice_kind b rest h.0
kind_at (inside read) text rest h = ap kind_of h.1.1 ∙ opening (h.0 ++ 125 ∷ rest) (inner_first h.0 rest h.1.0)
kind_at (wrong lone) text rest h = ap kind_of h.0.1 ∙ rw (ne_eqb (slice_index h.0.0 0) 125 h.0.2) refl
kind_at (wrong nested) text rest h = ap kind_of h.0.4 ∙ opening (h.0.0 ++ 123 ∷ h.0.1) (front_first h.0.0 (123 ∷ h.0.1) h.0.2 h.0.3)
kind_at (wrong unclosed) text rest h = ap kind_of h.0.2 ∙ opening h.0.0 (alone_first h.0.0 h.0.1)
kind_at (wrong (refused cause)) text rest h = absurd h

wrong_kind : (break : Break) → 3 ≤ kind (wrong break)
wrong_kind lone = omega arith
wrong_kind nested = omega arith
wrong_kind unclosed = omega arith
wrong_kind (refused cause) = omega arith

-- two heads of one text are one, with one rest
both_heads : (head other : Head) (text r s : List ℕ) → IsHead head text r → IsHead other text s → kind head ≡ kind other → (head ≡ other) × (r ≡ s)
both_heads nothing nothing text r s a b e = (refl, a.1 ∙ sym b.1)
both_heads (byte x) (byte y) text r s a b e =
    let h : x ∷ r ≡ y ∷ s = sym a.1 ∙ b.1 in
    let first : x ≡ y = cc in
    (ap byte first, cc)
both_heads (twice x) (twice y) text r s a b e =
    let h : x ∷ x ∷ r ≡ y ∷ y ∷ s = sym a.1 ∙ b.1 in
    let first : x ≡ y = cc in
    (ap twice first, cc)
both_heads (inside i) (inside j) text r s a b e =
    let h : 123 ∷ a.0 ++ 125 ∷ r ≡ 123 ∷ b.0 ++ 125 ∷ s = sym a.1.1 ∙ b.1.1 in
    let tails : a.0 ++ 125 ∷ r ≡ b.0 ++ 125 ∷ s = cc in
    let it = same_front a.0 b.0 125 125 r s a.1.0 b.1.0 (inr refl) (inr refl) tails in
    let P : List ℕ → Type 0 = λ bs. IsRead bs j in
    (ap inside (read_once a.0 i j a.2 (subst P (sym it.fronts) b.2)), it.rests)
both_heads (inside i) (wrong nested) text r s a b e =
    let h : 123 ∷ a.0 ++ 125 ∷ r ≡ 123 ∷ b.0.0 ++ 123 ∷ b.0.1 = sym a.1.1 ∙ b.0.4 in
    let tails : a.0 ++ 125 ∷ r ≡ b.0.0 ++ 123 ∷ b.0.1 = cc in
    let it = same_front a.0 b.0.0 125 123 r b.0.1 a.1.0 b.0.2 (inr refl) (inl refl) tails in
    absurd (omega (arith, it.braces))
both_heads (inside i) (wrong unclosed) text r s a b e =
    let h : 123 ∷ b.0.0 ≡ 123 ∷ a.0 ++ 125 ∷ r = sym b.0.2 ∙ a.1.1 in
    let tails : b.0.0 ≡ a.0 ++ 125 ∷ r = cc in
    absurd (brace_within a.0 125 r (subst HasNoBrace tails b.0.1) (inr refl))
both_heads (wrong nested) (inside j) text r s a b e =
    let h : 123 ∷ a.0.0 ++ 123 ∷ a.0.1 ≡ 123 ∷ b.0 ++ 125 ∷ s = sym a.0.4 ∙ b.1.1 in
    let tails : a.0.0 ++ 123 ∷ a.0.1 ≡ b.0 ++ 125 ∷ s = cc in
    let it = same_front a.0.0 b.0 123 125 a.0.1 s a.0.2 b.1.0 (inl refl) (inr refl) tails in
    absurd (omega (arith, it.braces))
both_heads (wrong unclosed) (inside j) text r s a b e =
    let h : 123 ∷ a.0.0 ≡ 123 ∷ b.0 ++ 125 ∷ s = sym a.0.2 ∙ b.1.1 in
    let tails : a.0.0 ≡ b.0 ++ 125 ∷ s = cc in
    absurd (brace_within b.0 125 s (subst HasNoBrace tails a.0.1) (inr refl))
both_heads (wrong (refused cause)) other text r s a b e = absurd a
both_heads head (wrong (refused cause)) text r s a b e = absurd b
both_heads (wrong lone) (wrong lone) text r s a b e = (refl, a.1 ∙ sym b.1)
both_heads (wrong nested) (wrong nested) text r s a b e = (refl, a.1 ∙ sym b.1)
both_heads (wrong unclosed) (wrong unclosed) text r s a b e = (refl, a.1 ∙ sym b.1)
both_heads (wrong nested) (wrong unclosed) text r s a b e =
    let h : 123 ∷ b.0.0 ≡ 123 ∷ a.0.0 ++ 123 ∷ a.0.1 = sym b.0.2 ∙ a.0.4 in
    let tails : b.0.0 ≡ a.0.0 ++ 123 ∷ a.0.1 = cc in
    absurd (brace_within a.0.0 123 a.0.1 (subst HasNoBrace tails b.0.1) (inl refl))
both_heads (wrong unclosed) (wrong nested) text r s a b e =
    let h : 123 ∷ a.0.0 ≡ 123 ∷ b.0.0 ++ 123 ∷ b.0.1 = sym a.0.2 ∙ b.0.4 in
    let tails : a.0.0 ≡ b.0.0 ++ 123 ∷ b.0.1 = cc in
    absurd (brace_within b.0.0 123 b.0.1 (subst HasNoBrace tails a.0.1) (inl refl))
both_heads nothing (wrong break) text r s a b e = absurd (omega (arith, e, wrong_kind break))
both_heads (byte x) (wrong break) text r s a b e = absurd (omega (arith, e, wrong_kind break))
both_heads (twice x) (wrong break) text r s a b e = absurd (omega (arith, e, wrong_kind break))
both_heads (wrong break) nothing text r s a b e = absurd (omega (arith, e, wrong_kind break))
both_heads (wrong break) (byte y) text r s a b e = absurd (omega (arith, e, wrong_kind break))
both_heads (wrong break) (twice y) text r s a b e = absurd (omega (arith, e, wrong_kind break))
both_heads head other text r s a b e = absurd (omega (arith, e))

one_head : (head other : Head) (text r s : List ℕ) → IsHead head text r → IsHead other text s → (head ≡ other) × (r ≡ s)
one_head head other text r s a b = both_heads head other text r s a b (sym (kind_at head text r a) ∙ kind_at other text s b)

-- the heads of a piece and of a stop
abbrev piece_head : Piece → Head
piece_head (ordinary b) = byte b
piece_head (escape b) = twice b
piece_head (pattern view) = inside (Ok view)

abbrev stop_head : Option Break → Head
stop_head None = nothing
stop_head (Some lone) = wrong lone
stop_head (Some nested) = wrong nested
stop_head (Some unclosed) = wrong unclosed
stop_head (Some (refused cause)) = inside (Err cause)

piece_in : (piece : Piece) (text rest : List ℕ) → IsPiece piece text rest → IsHead (piece_head piece) text rest
piece_in (ordinary b) text rest h = h
piece_in (escape b) text rest h = h
piece_in (pattern view) text rest h = h

abbrev StopsIn : Option Break → List ℕ → Type 0
StopsIn stop text = (rest : List ℕ) × IsHead (stop_head stop) text rest

stop_in : (stop : Option Break) (text : List ℕ) → IsCut [] stop text → StopsIn stop text
stop_in None text h = ([], (h, refl))
stop_in (Some lone) text h = ([], (h, refl))
stop_in (Some nested) text h = ([], (h, refl))
stop_in (Some unclosed) text h = ([], (h, refl))
stop_in (Some (refused cause)) text h = (h.1, (h.0, h.2, h.3))

-- the pieces and the stops that a head stands for
abbrev piece_of : Head → Option Piece
piece_of nothing = None
piece_of (byte b) = Some (ordinary b)
piece_of (twice b) = Some (escape b)
piece_of (inside (Ok view)) = Some (pattern view)
piece_of (inside (Err cause)) = None
piece_of (wrong break) = None

abbrev stop_of : Head → Option Break
stop_of nothing = None
stop_of (byte b) = None
stop_of (twice b) = None
stop_of (inside (Ok view)) = None
stop_of (inside (Err cause)) = Some (refused cause)
stop_of (wrong break) = Some break

piece_back : (piece : Piece) → piece_of (piece_head piece) ≡ Some piece
piece_back (ordinary b) = refl
piece_back (escape b) = refl
piece_back (pattern view) = refl

stop_back : (stop : Option Break) → (stop_of (stop_head stop) ≡ stop) × (piece_of (stop_head stop) ≡ None)
stop_back None = (refl, refl)
stop_back (Some lone) = (refl, refl)
stop_back (Some nested) = (refl, refl)
stop_back (Some unclosed) = (refl, refl)
stop_back (Some (refused cause)) = (refl, refl)

piece_from : (piece other : Piece) → piece_head piece ≡ piece_head other → piece ≡ other
piece_from piece other e =
    let h : Some piece ≡ Some other = sym (piece_back piece) ∙ ap piece_of e ∙ piece_back other in
    cc

stop_from : (stop other : Option Break) → stop_head stop ≡ stop_head other → stop ≡ other
stop_from stop other e = sym (stop_back stop).0 ∙ ap stop_of e ∙ (stop_back other).0

no_stop : (stop : Option Break) (piece : Piece) → stop_head stop ≡ piece_head piece → ⊥
no_stop stop piece e =
    let h : None ≡ Some piece = sym (stop_back stop).1 ∙ ap piece_of e ∙ piece_back piece in
    cc

-- two cuts of a text are one
pub cut_once : (pieces others : List Piece) (stop other : Option Break) (text : List ℕ) → IsCut pieces stop text → IsCut others other text → (pieces ≡ others) × (stop ≡ other)
cut_once [] [] stop other text a b =
    let x = stop_in stop text a in
    let y = stop_in other text b in
    (refl, stop_from stop other (one_head (stop_head stop) (stop_head other) text x.0 y.0 x.1 y.1).0)
cut_once [] (q ∷ qs) stop other text a b =
    let x = stop_in stop text a in
    absurd (no_stop stop q (one_head (stop_head stop) (piece_head q) text x.0 b.0 x.1 (piece_in q text b.0 b.1)).0)
cut_once (p ∷ ps) [] stop other text a b =
    let y = stop_in other text b in
    absurd (no_stop other p (one_head (stop_head other) (piece_head p) text y.0 a.0 y.1 (piece_in p text a.0 a.1)).0)
cut_once (p ∷ ps) (q ∷ qs) stop other text a b =
    let one = one_head (piece_head p) (piece_head q) text a.0 b.0 (piece_in p text a.0 a.1) (piece_in q text b.0 b.1) in
    let P : List ℕ → Type 0 = λ rest. IsCut qs other rest in
    let later = cut_once ps qs stop other a.0 a.2 (subst P (sym one.1) b.2) in
    (ap (λ (piece : Piece). piece ∷ ps) (piece_from p q one.0) ∙ ap (λ (zs : List Piece). q ∷ zs) later.0, later.1)

-- a text prints one thing, and some thing
pub prints_once : (meanings : List ℕ → Option Meaning) (text : List ℕ) (one other : Outcome) → Prints meanings text one → Prints meanings text other → one ≡ other
prints_once meanings text one other a b =
    let same = cut_once a.0 b.0 a.1 b.1 text a.2 b.2 in
    a.3 ∙ ap (λ (pieces : List Piece). joined meanings pieces a.1) same.0 ∙ ap (λ (stop : Option Break). joined meanings b.0 stop) same.1 ∙ sym b.3

pub prints_some : (meanings : List ℕ → Option Meaning) (text : List ℕ) → IsUtf8 text → (outcome : Outcome) × Prints meanings text outcome
prints_some meanings text u =
    let cut = cut_of text u in
    (joined meanings cut.pieces cut.stop, (cut.pieces, cut.stop, cut.is, refl))
