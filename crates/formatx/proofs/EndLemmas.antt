-- Texts that a source ends with.
use Rattle.std.proofs.Common.{◌≡◌, ℕ, ◌-◌, ◌≤◌, ◌<◌, List, [], ◌∷◌, get_or, ◌++◌, length, take, drop, refl, arith, ap, ◌∙◌, sym, subst, append_assoc}
use Rattle.std.proofs.lemmas.List.{length-append, take-append-drop}
use Rattle.std.specs.Str.{IsUtf8, IsCharBoundary}
use Rattle.std.proofs.lemmas.Str.{IsCharBoundary-at_seam, IsCharBoundary-after_ascii}
use Rattle.formatx.specs.Fault.{between}
use Rattle.formatx.specs.Spans.{SpanFits}
use Rattle.formatx.specs.Inner.Ends.{IsEnd}

-- a text ends with itself
pub end_whole : (text : List ℕ) → IsEnd text text
end_whole text = record { front = []; whole = refl }

pub end_trans : {a b c : List ℕ} → IsEnd a b → IsEnd b c → IsEnd a c
end_trans {a} {b} {c} h k = record { front = h.front ++ k.front; whole = h.whole ∙ ap (λ (xs : List ℕ). h.front ++ xs) k.whole ∙ sym (append_assoc h.front k.front c) }

-- what follows some bytes
pub end_drop : (text rest : List ℕ) (n : ℕ) → rest ≡ drop n text → IsEnd text rest
end_drop text rest n e = record { front = take n text; whole = sym (take-append-drop n text) ∙ ap (λ (xs : List ℕ). take n text ++ xs) (sym e) }

pub end_length : {text rest : List ℕ} → IsEnd text rest → length rest ≤ length text
end_length {text} {rest} h = omega (arith, ap length h.whole, length-append h.front rest)

-- a character of the source begins where a text begins that it ends with
pub end_boundary : {source text : List ℕ} → IsEnd source text → IsUtf8 text → IsCharBoundary source (length source - length text)
end_boundary {source} {text} h utf8 =
    let at : IsCharBoundary source (length h.front) = IsCharBoundary-at_seam source h.front text h.whole utf8 in
    let place : length h.front ≡ length source - length text = omega (arith, ap length h.whole, length-append h.front text) in
    subst (λ (i : ℕ). IsCharBoundary source i) place at

-- the bytes between two such texts lie between characters
pub fits_between : {source from to : List ℕ} → IsEnd source from → IsEnd from to → IsUtf8 from → IsUtf8 to → SpanFits source (between (length source) from to)
fits_between {source} {from} {to} h k utf8 utf8' = (omega (arith, end_length h, end_length k), end_boundary h utf8, end_boundary (end_trans h k) utf8')

-- a text whose first byte isn't 0 has one
pub some_byte : (text : List ℕ) → 0 < get_or text 0 0 → 0 < length text
some_byte [] h = h
some_byte (c ∷ cs) h = omega arith

-- after an ASCII byte a character begins
pub after_first : (text : List ℕ) → IsUtf8 text → 0 < get_or text 0 0 → get_or text 0 0 < 128 → IsCharBoundary text 1
after_first text utf8 some ascii = IsCharBoundary-after_ascii text 0 utf8 (some_byte text some) ascii
