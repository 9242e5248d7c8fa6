use Rattle.std.proofs.Common.{◌≡◌, ℕ, List, get_or, sym, ap, ◌∙◌, arith}
use Rattle.std.proofs.lemmas.Str.{IsCharBoundary-after_ascii}
use Rattle.pieces.proofs.layout.without_plus.Goals as goal

pub range_from-requires : goal.range_from-requires
range_from-requires c =
    let plus : get_or c.as_bytes.result.now 0 0 ≡ 43 = omega arith in
    let first : get_or c.args.text.now 0 0 ≡ 43 = sym (ap (λ (t : List ℕ). get_or t 0 0) c.as_bytes.ensures.value) ∙ plus in
    λ some. IsCharBoundary-after_ascii c.args.text.now 0 c.utf8.text (omega (arith, c.in-43.len_at_least, c.as_bytes.ensures.len)) (omega (arith, first))
