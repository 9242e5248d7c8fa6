use Rattle.std.proofs.Common.{take, ap, sym, ◌∙◌}
use Rattle.sprintf.proofs.Cut.{cut_is}
use Rattle.sprintf.proofs.field.cut_to.Goals as goal

pub returns : goal.returns
returns c =
    let at = c.floor_char_boundary.ensures in
    c.split_at.ensures.front ∙ ap (λ n. take n c.args.word.now) (sym (cut_is c.args.word.now c.floor_char_boundary.result c.args.precision at.boundary at.bound at.nearest))
