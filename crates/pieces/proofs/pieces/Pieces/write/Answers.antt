use Rattle.std.proofs.Common.{◌≡◌, ℕ, ◌+◌, List, length, take, string_bytes, IsCharBoundary, subst, sym, ◌∙◌, arith, length-append}
use Rattle.std.proofs.Math.Seq.{take-append_seam}
use Rattle.std.specs.Str.{IsUtf8}
use Rattle.std.proofs.lemmas.Str.{IsCharBoundary-from_take, IsUtf8-string_bytes}
use Rattle.pieces.specs.Inner.Layout.{Starts}
use Rattle.pieces.proofs.pieces.Pieces.write.Goals as goal

-- a text may be cut behind the text that it begins with
cut_behind : (front text : List ℕ) (n : ℕ) → n ≡ length front → IsUtf8 front → IsUtf8 text → Starts front text → IsCharBoundary text n
cut_behind front text n e u v s =
    let cut : take n text ≡ front = rw (e, s.1) (take-append_seam front s.0) in
    let len : length text ≡ length front + length s.0 = rw s.1 (length-append front s.0) in
    IsCharBoundary-from_take text n v (omega (arith, e, len)) (subst IsUtf8 (sym cut) u)

pub truncate-requires : goal.truncate-requires
truncate-requires c = λ le.
    let at = cut_behind (string_bytes c.args.out.now) (string_bytes c.append.new.out) c.len-before.result (c.len-before.ensures ∙ c.args.out.now.bytes.ok.0) (IsUtf8-string_bytes c.args.out.now) (IsUtf8-string_bytes c.append.new.out) c.append.ensures.front in
    (at.0, λ _. at.1)
