use Rattle.std.proofs.Common.{List, ℕ, map, string_bytes, ap, ◌∙◌}
use Rattle.scan_fmt.specs.Slices.{piece_text}
use Rattle.scan_fmt.proofs.Taking.{scanned_texts}
use Rattle.scan_fmt.proofs.parse.Format.scan.Goals as goal

pub returns : goal.returns
returns c =
    let slices = c.in_ok-slices.slices in
    rw c.into_iter-tokens.ensures.rest
    (scanned_texts c.args.input.now c.args.self.now slices.pieces (map string_bytes c.in_ok-tokens.tokens.items) c.in_ok-slices.ensures.pieces
    (c.in_ok-tokens.ensures ∙ ap (λ (bytes : List ℕ). map (piece_text bytes) slices.pieces) c.in_ok-slices.ensures.input))
