-- Each text can be cut.
use Rattle.std.proofs.Common.{◌≡◌, ◌≢◌, ◌⊎◌, inl, inr, ℕ, ◌<◌, ◌≤◌, List, [], ◌∷◌, ◌++◌, refl, length, arith, sym, ◌∙◌, ap, length-append, suc, zero, Option, Some, None, Result, Ok, Err, true, false, subst, map}
use Rattle.std.specs.Prelude.{slice_index, eqb, IsUtf8}
use Rattle.std.proofs.lemmas.Bool.Decides.{eqb_tells}
use Rattle.strfmt.specs.declared.cause.Cause.{Cause}
use Rattle.strfmt.specs.Spec.{View}
use Rattle.strfmt.specs.Grammar.Pattern.{IsRead}
use Rattle.strfmt.specs.Grammar.{Piece, ordinary, escape, pattern, IsBrace, IsNoBrace, HasNoBrace, Break, lone, refused, BeginsWith, BeginsWithPattern, IsCut}
use Rattle.strfmt.specs.Inner.Cutting.{IsPlainFront}
use Rattle.strfmt.proofs.CutLemmas.{unclosed_is, nested_is, utf8_rest, utf8_escape, utf8_pattern, cut_plain}
use Rattle.strfmt.proofs.ReadLemmas.{read_some}

pub record Cut (text : List ℕ) : Type 0 where
  pub pieces : List Piece
  pub stop : Option Break
  pub is : IsCut pieces stop text

brace_from : (b : ℕ) → ((eqb b 123 ≡ true) × (b ≡ 123)) ⊎ ((eqb b 123 ≡ false) × (b ≢ 123)) → ((eqb b 125 ≡ true) × (b ≡ 125)) ⊎ ((eqb b 125 ≡ false) × (b ≢ 125)) → IsBrace b ⊎ IsNoBrace b
brace_from b (inl e) q = inl (inl e.1)
brace_from b (inr n) (inl e) = inl (inr e.1)
brace_from b (inr n) (inr m) = inr (n.1, m.1)

brace_or_not : (b : ℕ) → IsBrace b ⊎ IsNoBrace b
brace_or_not b = brace_from b (eqb_tells b 123) (eqb_tells b 125)

record Front (text : List ℕ) : Type 0 where
  front : List ℕ
  rest : List ℕ
  is : IsPlainFront text front rest

front_at : (b : ℕ) (bs : List ℕ) → IsBrace b ⊎ IsNoBrace b → Front bs → Front (b ∷ bs)
front_at b bs (inl brace) f = record { front = []; rest = b ∷ bs; is = record { whole = refl; plain = tt; longest = λ h. brace } }
front_at b bs (inr plain) f = record { front = b ∷ f.front; rest = f.rest; is = record { whole = ap (λ (xs : List ℕ). b ∷ xs) f.is.whole; plain = (plain, f.is.plain); longest = f.is.longest } }

front_of : (text : List ℕ) → Front text
front_of [] = record { front = []; rest = []; is = record { whole = refl; plain = tt; longest = λ h. absurd (omega (arith, h)) } }
front_of (b ∷ bs) = front_at b bs (brace_or_not b) (front_of bs)

stops : (text : List ℕ) (wrong : Break) → BeginsWith wrong text → Cut text
stops text wrong b = record { pieces = []; stop = Some wrong; is = b }

-- each shorter text can be cut
abbrev Shorter : List ℕ → Type 0
Shorter text = (shorter : List ℕ) → length shorter < length text → IsUtf8 shorter → Cut shorter

-- a pattern, as it reads
read_at : (text inner rest : List ℕ) (read : Result View Cause) → IsRead inner read → BeginsWithPattern inner text rest → IsUtf8 rest → length rest < length text → Shorter text → Cut text
read_at text inner rest (Ok view) r p u h cuts =
    let c = cuts rest h u in
    record { pieces = pattern view ∷ c.pieces; stop = c.stop; is = (rest, (inner, p, r), c.is) }
read_at text inner rest (Err cause) r p u h cuts = stops text (refused cause) (inner, rest, p, r)

pattern_at : (text inner rest : List ℕ) → IsUtf8 text → BeginsWithPattern inner text rest → Shorter text → Cut text
pattern_at text inner rest u p cuts =
    let us = utf8_pattern text inner rest u p.1 in
    let r = read_some inner us.0 in
    read_at text inner rest r.0 r.1 p us.1 (omega (arith, ap length p.1, length-append inner (125 ∷ rest))) cuts

-- an opening brace in front of a text that begins with no other
after_rest : (text inner rest : List ℕ) → IsUtf8 (123 ∷ text) → slice_index text 0 ≢ 123 → IsPlainFront text inner rest → Shorter (123 ∷ text) → Cut (123 ∷ text)
after_rest text inner [] u h p cuts = let it = unclosed_is text inner [] p refl in stops (123 ∷ text) it.0 it.1
after_rest text inner (r ∷ rs) u h p cuts = go (p.longest (omega arith)) where
  go : IsBrace r → Cut (123 ∷ text)
  go (inl e) = let it = nested_is text inner (r ∷ rs) h p (λ z. absurd (omega (arith, z))) (λ z. absurd (omega (arith, z, e))) in stops (123 ∷ text) it.0 it.1
  go (inr e) = pattern_at (123 ∷ text) inner rs u (p.plain, ap (λ (bs : List ℕ). 123 ∷ bs) (p.whole ∙ ap (λ (b : ℕ). inner ++ b ∷ rs) e)) cuts

other_brace : (b : ℕ) (text : List ℕ) → IsUtf8 (b ∷ text) → IsBrace b → slice_index text 0 ≢ b → Shorter (b ∷ text) → Cut (b ∷ text)
other_brace b text u (inl e) h cuts =
    let P : ℕ → Type 0 = λ c. IsUtf8 (c ∷ text) → Shorter (c ∷ text) → Cut (c ∷ text) in
    let f = front_of text in
    let at : P 123 = λ v shorter. after_rest text f.front f.rest v (λ z. h (z ∙ sym e)) f.is shorter in
    subst P (sym e) at u cuts
other_brace b text u (inr e) h cuts =
    stops (b ∷ text) lone (text, ap (λ c. c ∷ text) e, λ z. h (z ∙ sym e))

doubled : (b d : ℕ) (ds : List ℕ) → IsUtf8 (b ∷ d ∷ ds) → IsBrace b → ((eqb d b ≡ true) × (d ≡ b)) ⊎ ((eqb d b ≡ false) × (d ≢ b)) → Shorter (b ∷ d ∷ ds) → Cut (b ∷ d ∷ ds)
doubled b d ds u brace (inl e) cuts =
    let is : b ∷ d ∷ ds ≡ b ∷ b ∷ ds = ap (λ x. b ∷ x ∷ ds) e.1 in
    let c = cuts ds (omega arith) (utf8_escape (b ∷ d ∷ ds) ds b u brace is) in
    record { pieces = escape b ∷ c.pieces; stop = c.stop; is = (ds, (brace, is), c.is) }
doubled b d ds u brace (inr n) cuts = other_brace b (d ∷ ds) u brace n.1 cuts

nothing_after : (b : ℕ) → 0 ≡ b → IsBrace b → ⊥
nothing_after b z (inl e) = omega (arith, z, e)
nothing_after b z (inr e) = omega (arith, z, e)

cut_brace : (b : ℕ) (bs : List ℕ) → IsUtf8 (b ∷ bs) → IsBrace b → Shorter (b ∷ bs) → Cut (b ∷ bs)
cut_brace b [] u brace cuts = other_brace b [] u brace (λ z. nothing_after b z brace) cuts
cut_brace b (d ∷ ds) u brace cuts = doubled b d ds u brace (eqb_tells d b) cuts

-- ordinary bytes in front
before : (text front rest : List ℕ) → HasNoBrace front → text ≡ front ++ rest → Cut rest → Cut text
before text front rest n e c = record { pieces = map ordinary front ++ c.pieces; stop = c.stop; is = cut_plain text front rest c.pieces c.stop n e c.is }

at_front : (text front rest : List ℕ) → IsUtf8 text → IsPlainFront text front rest → Shorter text → Cut text
at_front text front [] u p cuts = before text front [] p.plain p.whole (record { pieces = []; stop = None; is = refl })
at_front text front (b ∷ bs) u p cuts =
    let long : length (b ∷ bs) ≤ length text = omega (arith, ap length p.whole, length-append front (b ∷ bs)) in
    before text front (b ∷ bs) p.plain p.whole
    (cut_brace b bs (utf8_rest text front (b ∷ bs) u p) (p.longest (omega arith)) (λ shorter h v. cuts shorter (omega (arith, h, long)) v))

cut_within : (n : ℕ) (text : List ℕ) → length text ≤ n → IsUtf8 text → Cut text
cut_within zero [] h u = record { pieces = []; stop = None; is = refl }
cut_within zero (b ∷ bs) h u = absurd (omega (arith, h))
cut_within (suc n) text h u = let f = front_of text in at_front text f.front f.rest u f.is (λ shorter lt v. cut_within n shorter (omega (arith, h, lt)) v)

pub cut_of : (text : List ℕ) → IsUtf8 text → Cut text
cut_of text u = cut_within (length text) text (omega arith) u
