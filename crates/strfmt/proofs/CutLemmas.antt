-- How texts are cut at braces.
use Rattle.std.proofs.Common.{◌≡◌, ◌≢◌, inl, inr, ℕ, ◌+◌, ◌<◌, ◌≤◌, List, [], ◌∷◌, ◌++◌, refl, length, take, drop, get_or, arith, sym, ◌∙◌, ap, append_assoc, append-nil, length-append, suc, subst, map, Option}
use Rattle.std.proofs.lemmas.List.{length-take-le}
use Rattle.std.specs.Prelude.{IsUtf8, IsCharBoundary, slice_index}
use Rattle.std.proofs.lemmas.Str.{IsCharBoundary-end, IsCharBoundary-before_ascii, IsUtf8-drop, IsUtf8-take, IsUtf8-past_char, encode_ascii}
use Rattle.std.proofs.Math.Seq.{take-append_seam, drop-append_seam}
use Rattle.strfmt.specs.declared.cause.Cause.TheVariants.{NestedBrace, NoClosingBrace}
use Rattle.strfmt.specs.Grammar.{Piece, ordinary, IsBrace, IsNoBrace, HasNoBrace, Break, nested, unclosed, IsCut}
use Rattle.strfmt.specs.Inner.Cutting.{BeginsWithBrace, IsPlainFront, StopsBy}

no_brace-push : (bs : List ℕ) (b : ℕ) → HasNoBrace bs → IsNoBrace b → HasNoBrace (bs ++ b ∷ [])
no_brace-push [] b h n = (n, tt)
no_brace-push (x ∷ xs) b h n = (h.0, no_brace-push xs b h.1 n)

-- n bytes without braces were passed, and rest is left
pub record Scanned (text rest : List ℕ) (n : ℕ) : Type 0 where
  pub front : List ℕ
  pub whole : text ≡ front ++ rest
  pub count : length front ≡ n
  pub plain : HasNoBrace front

pub scanned_none : (text : List ℕ) → Scanned text text 0
scanned_none text = record { front = []; whole = refl; count = refl; plain = tt }

pub scanned_more : (text rest tail : List ℕ) (n b : ℕ) → Scanned text rest n → rest ≡ b ∷ tail → b ≢ 123 → b ≢ 125 → Scanned text tail (n + 1)
scanned_more text rest tail n b s e no_open no_close = record {
  front = s.front ++ b ∷ [];
  whole = s.whole ∙ ap (λ (bs : List ℕ). s.front ++ bs) e ∙ sym (append_assoc s.front (b ∷ []) tail);
  count = omega (arith, s.count, length-append s.front (b ∷ []));
  plain = no_brace-push s.front b s.plain (no_open, no_close);
}

front_is : (text rest : List ℕ) (n : ℕ) (s : Scanned text rest n) → (take n text ≡ s.front) × (drop n text ≡ rest)
front_is text rest n s = (
  ap (λ (bs : List ℕ). take n bs) s.whole ∙ ap (λ k. take k (s.front ++ rest)) (sym s.count) ∙ take-append_seam s.front rest,
  ap (λ (bs : List ℕ). drop n bs) s.whole ∙ ap (λ k. drop k (s.front ++ rest)) (sym s.count) ∙ drop-append_seam s.front rest,
)

pub scanned_front : (text rest : List ℕ) (n : ℕ) → Scanned text rest n → BeginsWithBrace rest → IsPlainFront text (take n text) (drop n text)
scanned_front text rest n s b =
    let is = front_is text rest n s in
    rw (is.0, is.1) (record { whole = s.whole; plain = s.plain; longest = b })

pub scanned_within : (text rest : List ℕ) (n : ℕ) → Scanned text rest n → n ≤ length text
scanned_within text rest n s = omega (arith, ap length s.whole, length-append s.front rest, s.count)

pub brace_is_ascii : (b : ℕ) → IsBrace b → b < 128
brace_is_ascii b (inl e) = omega (arith, e)
brace_is_ascii b (inr e) = omega (arith, e)

at_seam : (text front : List ℕ) (b : ℕ) (bs : List ℕ) → text ≡ front ++ b ∷ bs → get_or text (length front) 0 ≡ b
at_seam text [] b bs e = ap (λ (xs : List ℕ). get_or xs 0 0) e
at_seam text (x ∷ xs) b bs e = ap (λ (ys : List ℕ). get_or ys (suc (length xs)) 0) e ∙ at_seam (xs ++ b ∷ bs) xs b bs refl

-- a text may be cut before a brace and at its end
pub plain_boundary : (text front rest : List ℕ) → IsUtf8 text → IsPlainFront text front rest → IsCharBoundary text (length front)
plain_boundary text front [] u p =
    let e : length front ≡ length text = omega (arith, ap length p.whole, length-append front []) in
    rw e (IsCharBoundary-end text)
plain_boundary text front (b ∷ bs) u p =
    let some : length front < length text = omega (arith, ap length p.whole, length-append front (b ∷ bs)) in
    let at : get_or text (length front) 0 ≡ b = at_seam text front b bs p.whole in
    IsCharBoundary-before_ascii text (length front) some (rw at (brace_is_ascii b (p.longest (omega arith))))

-- a pattern with no end
pub unclosed_is : (text inner rest : List ℕ) → IsPlainFront text inner rest → length rest ≡ 0 → StopsBy NoClosingBrace (123 ∷ text)
unclosed_is text inner [] p z = (unclosed, (inner, p.plain, ap (λ (bs : List ℕ). 123 ∷ bs) (p.whole ∙ append-nil inner)), refl)
unclosed_is text inner (b ∷ bs) p z = absurd (omega (arith, z))

-- a second opening brace in a pattern
brace_left : (b : ℕ) → IsBrace b → b ≢ 125 → b ≡ 123
brace_left b (inl e) n = e
brace_left b (inr e) n = absurd (n e)

nested_at : (text inner : List ℕ) (bs : List ℕ) → slice_index text 0 ≢ 123 → HasNoBrace inner → text ≡ inner ++ 123 ∷ bs → StopsBy NestedBrace (123 ∷ text)
nested_at text [] bs h p e = absurd (h (ap (λ (xs : List ℕ). slice_index xs 0) e))
nested_at text (x ∷ xs) bs h p e = (nested, (x ∷ xs, bs, p, (λ z. cc), ap (λ (ys : List ℕ). 123 ∷ ys) e), refl)

pub nested_is : (text inner rest : List ℕ) → slice_index text 0 ≢ 123 → IsPlainFront text inner rest → length rest ≢ 0 → slice_index rest 0 ≢ 125
    → StopsBy NestedBrace (123 ∷ text)
nested_is text inner [] h p z n = absurd (z refl)
nested_is text inner (b ∷ bs) h p z n =
    let opening : b ≡ 123 = brace_left b (p.longest (omega arith)) n in
    nested_at text inner bs h p.plain (p.whole ∙ ap (λ (c : ℕ). inner ++ c ∷ bs) opening)

pub plain_boundary_at : (text : List ℕ) (n : ℕ) → IsUtf8 text → n ≤ length text → IsPlainFront text (take n text) (drop n text) → IsCharBoundary text n
plain_boundary_at text n u h p =
    let P : ℕ → Type 0 = λ k. IsCharBoundary text k in
    subst P (length-take-le n text h) (plain_boundary text (take n text) (drop n text) u p)

-- what is left after an ASCII character in a text is a text
pub utf8_past : (b : ℕ) (bs : List ℕ) → b < 128 → IsUtf8 (b ∷ bs) → IsUtf8 bs
utf8_past b bs h u = IsUtf8-past_char (b ∷ bs) bs b u (ap (λ (xs : List ℕ). xs ++ bs) (sym (encode_ascii b h)))

-- what stands from an ASCII character on is a text, and so is what stands before it
utf8_from : (text front rest : List ℕ) (b : ℕ) → IsUtf8 text → b < 128 → text ≡ front ++ b ∷ rest → IsCharBoundary text (length front)
utf8_from text front rest b u small e =
    let some : length front < length text = omega (arith, ap length e, length-append front (b ∷ rest)) in
    let at : get_or text (length front) 0 ≡ b = at_seam text front b rest e in
    IsCharBoundary-before_ascii text (length front) some (rw at small)

pub utf8_past_byte : (text front rest : List ℕ) (b : ℕ) → IsUtf8 text → b < 128 → text ≡ front ++ b ∷ rest → IsUtf8 rest
utf8_past_byte text front rest b u small e =
    let is : drop (length front) text ≡ b ∷ rest = ap (λ (bs : List ℕ). drop (length front) bs) e ∙ drop-append_seam front (b ∷ rest) in
    utf8_past b rest small (subst IsUtf8 is (IsUtf8-drop text (length front) u (utf8_from text front rest b u small e)))

pub utf8_before_byte : (text front rest : List ℕ) (b : ℕ) → IsUtf8 text → b < 128 → text ≡ front ++ b ∷ rest → IsUtf8 front
utf8_before_byte text front rest b u small e =
    let is : take (length front) text ≡ front = ap (λ (bs : List ℕ). take (length front) bs) e ∙ take-append_seam front (b ∷ rest) in
    subst IsUtf8 is (IsUtf8-take text (length front) u (utf8_from text front rest b u small e))

-- what is left after a front without braces is a text
pub utf8_rest : (text front rest : List ℕ) → IsUtf8 text → IsPlainFront text front rest → IsUtf8 rest
utf8_rest text front rest u p =
    let e : drop (length front) text ≡ rest = ap (λ (bs : List ℕ). drop (length front) bs) p.whole ∙ drop-append_seam front rest in
    subst IsUtf8 e (IsUtf8-drop text (length front) u (plain_boundary text front rest u p))

pub utf8_escape : (text rest : List ℕ) (b : ℕ) → IsUtf8 text → IsBrace b → text ≡ b ∷ b ∷ rest → IsUtf8 rest
utf8_escape text rest b u brace e =
    let small = brace_is_ascii b brace in
    utf8_past b rest small (utf8_past b (b ∷ rest) small (subst IsUtf8 e u))

pub utf8_pattern : (text inner rest : List ℕ) → IsUtf8 text → text ≡ 123 ∷ inner ++ 125 ∷ rest → IsUtf8 inner × IsUtf8 rest
utf8_pattern text inner rest u e =
    let inside : IsUtf8 (inner ++ 125 ∷ rest) = utf8_past 123 (inner ++ 125 ∷ rest) (omega arith) (subst IsUtf8 e u) in
    (utf8_before_byte (inner ++ 125 ∷ rest) inner rest 125 inside (omega arith) refl, utf8_past_byte (inner ++ 125 ∷ rest) inner rest 125 inside (omega arith) refl)

-- ordinary bytes in front of a text that is cut
pub cut_plain : (text front rest : List ℕ) (pieces : List Piece) (stop : Option Break) → HasNoBrace front → text ≡ front ++ rest → IsCut pieces stop rest → IsCut (map ordinary front ++ pieces) stop text
cut_plain text [] rest pieces stop n e c = let P : List ℕ → Type 0 = λ bs. IsCut pieces stop bs in subst P (sym e) c
cut_plain text (b ∷ bs) rest pieces stop n e c = (bs ++ rest, (n.0, e), cut_plain (bs ++ rest) bs rest pieces stop n.1 refl c)
