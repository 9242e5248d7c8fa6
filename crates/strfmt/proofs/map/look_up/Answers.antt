use Rattle.std.proofs.Common.{sym}
use Rattle.strfmt.proofs.PrintLemmas.{get_none}
use Rattle.strfmt.proofs.map.look_up.Goals as goal

pub returns-in-None : goal.returns-in-None
returns-in-None g c =
    let none = rw c.in-None.is at c.in_ok-key.ensures in
    sym (get_none _ c.args.vars.now none)
