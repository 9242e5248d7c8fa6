-- Where a piece lies, and pieces by their place.
use Rattle.std.proofs.Common.{◌≡◌, ◌+◌, ◌-◌, ◌<◌, ℕ, zero, suc, List, [], ◌∷◌, ◌++◌, length, take, drop, get_or, sym, ap, subst, ◌∙◌, arith, append_assoc, length-append, take_at, drop_at}
use Rattle.std.specs.List.{AllByRecursion}
use Rattle.std.specs.Str.{chars, IsUtf8, IsCharBoundary}
use Rattle.std.proofs.lemmas.Str.{IsCharBoundary-at_seam, IsUtf8-append}
use Rattle.scan_fmt.specs.declared.slices.Piece.{Piece}
use Rattle.scan_fmt.specs.Slices.{piece_text, IsPiece}

pub piece_is : (input front token behind : List ℕ) (p : Piece) → input ≡ front ++ (token ++ behind) → IsUtf8 token → IsUtf8 behind → p.end ≡ length input - length behind → p.start ≡ p.end - length token
    → IsPiece input p (record { text = chars token; behind = chars behind })
piece_is input front token behind p whole u v end start =
    let bytes : length input ≡ length front + (length token + length behind) = ap length whole ∙ length-append front (token ++ behind) ∙ ap (λ n. length front + n) (length-append token behind) in
    let starts : length front ≡ p.start = omega arith in
    let ends : length (front ++ token) ≡ p.end = omega (arith, length-append front token) in
    let cut : input ≡ (front ++ token) ++ behind = whole ∙ sym (append_assoc front token behind) in
    let rest : drop p.start input ≡ token ++ behind = ap (drop p.start) whole ∙ drop_at front (token ++ behind) p.start starts in
    let long : length token ≡ p.end - p.start = omega (arith, length-append front token) in
    let text : piece_text input p ≡ token = ap (take (p.end - p.start)) rest ∙ take_at token behind (p.end - p.start) long in
    let after : drop p.end input ≡ behind = ap (drop p.end) cut ∙ drop_at (front ++ token) behind p.end ends in
    record {
      forward = omega arith;
      starts = subst (IsCharBoundary input) starts (IsCharBoundary-at_seam input front (token ++ behind) whole (IsUtf8-append token behind u v));
      ends = subst (IsCharBoundary input) ends (IsCharBoundary-at_seam input (front ++ token) behind cut v);
      text = ap chars text;
      behind = ap chars after;
    }

pub each_at_place : (P : Piece → Type 0) (ps : List Piece) (i : ℕ) (d : Piece) → AllByRecursion P ps → i < length ps → P (get_or ps i d)
each_at_place P [] i d h less = absurd (omega arith)
each_at_place P (p ∷ ps) zero d h less = h.0
each_at_place P (p ∷ ps) (suc i) d h less = each_at_place P ps i d h.1 (omega arith)
