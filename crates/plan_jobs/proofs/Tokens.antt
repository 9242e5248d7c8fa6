-- The slices of a scan are the tokens of its format.
use Rattle.std.proofs.Common.{◌≡◌, ℕ, List, [], ◌∷◌, map, drop, refl, sym, ap, ◌∙◌, subst, Result, Ok, Err, OnOk}
use Rattle.std.specs.List.{AllByRecursion}
use Rattle.std.specs.Str.{chars, IsUtf8}
use Rattle.std.proofs.lemmas.Str.{IsUtf8-between}
use Rattle.std.proofs.lemmas.List.Elements.{All-from_recursion}
use Rattle.scan_fmt.specs.declared.slices.Piece.{Piece}
use Rattle.scan_fmt.specs.Scanned.{Token}
use Rattle.scan_fmt.specs.Slices.{piece_text, ScannedPieces, Sliced, slices_left}
use Rattle.scan_fmt.specs.Inner.Parts.{ArePieces}
use Rattle.plan_jobs.specs.Scan.{AreTokens}

texts_of : (input : List ℕ) (pieces : List Piece) (tokens : List Token) → ArePieces input pieces tokens → map chars (map (piece_text input) pieces) ≡ map (λ (t : Token). t.text) tokens
texts_of input [] [] are = refl
texts_of input [] (t ∷ ts) are = absurd are
texts_of input (p ∷ ps) [] are = absurd are
texts_of input (p ∷ ps) (t ∷ ts) are =
    let first : chars (piece_text input p) ≡ t.text = are.0.text in
    let rest : map chars (map (piece_text input) ps) ≡ map (λ (x : Token). x.text) ts = texts_of input ps ts are.1 in
    cc

utf8_of : (input : List ℕ) (pieces : List Piece) (tokens : List Token) → IsUtf8 input → ArePieces input pieces tokens → AllByRecursion IsUtf8 (map (piece_text input) pieces)
utf8_of input [] [] u are = tt
utf8_of input [] (t ∷ ts) u are = absurd are
utf8_of input (p ∷ ps) [] u are = absurd are
utf8_of input (p ∷ ps) (t ∷ ts) u are = (IsUtf8-between input p.start p.end u are.0.forward are.0.starts are.0.ends, utf8_of input ps ts u are.1)

all_tokens : (text line : List ℕ) (pieces : List Piece) → IsUtf8 line → ScannedPieces line (chars text) pieces → AreTokens text line (map (piece_text line) pieces)
all_tokens text line pieces u scanned = record {
  utf8 = All-from_recursion _ (map (piece_text line) pieces) (utf8_of line pieces scanned.tokens u scanned.are);
  scanned = (scanned.tokens, scanned.scanned, texts_of line pieces scanned.tokens scanned.are);
}

pub are_tokens : (text line format : List ℕ) (s : Sliced) → IsUtf8 line → format ≡ chars text → s.input ≡ line → s.place ≡ 0 → ScannedPieces line format s.pieces → AreTokens text line (slices_left s)
are_tokens text line format s u cut input place scanned =
    let left : slices_left s ≡ map (piece_text line) s.pieces = ap (λ (i : List ℕ). map (piece_text i) (drop s.place s.pieces)) input ∙ ap (λ (k : ℕ). map (piece_text line) (drop k s.pieces)) place in
    subst (AreTokens text line) (sym left) (all_tokens text line s.pieces u (subst (λ (f : List ℕ). ScannedPieces line f s.pieces) cut scanned))

pub on_ok : {T E A B : Type 0} (r : Result T E) → (A → B) → OnOk r A → OnOk r B
on_ok (Ok t) f h = f h
on_ok (Err e) f h = tt
