use Rattle.std.proofs.Common.{rules, List, ℕ, Option, string_bytes}
use Rattle.strfmt.specs.Text.{Meaning}
use Rattle.strfmt.specs.Values.{values}
use Rattle.strfmt.proofs.PrintLemmas.{filled_at, printed}
use Rattle.strfmt.proofs.map.strfmt.Goals as goal

pub returns : goal.returns
returns g c =
    let meanings : List ℕ → Option Meaning = values g.K.FromKey.spells g.T.DisplayStr.meaning c.args.vars.now in
    printed _ _ meanings
    (λ view left answer f' k. (search (rules, k.called.met), filled_at meanings view k.shown.now left k.left.now answer k.shows k.leaves (search (rules, k.called.met))))
    string_bytes c.args.fmtstr.now c.strfmt_map.result c.utf8.fmtstr c.strfmt_map.ensures.ok c.strfmt_map.ensures.err
