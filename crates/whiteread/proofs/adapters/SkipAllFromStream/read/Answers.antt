use Rattle.std.proofs.Common.{rules}
use Rattle.whiteread.specs.Reading.Reach.{reached_next}
use Rattle.whiteread.proofs.adapters.SkipAllFromStream.read.Goals as goal

pub words-preserved : goal.words-preserved
words-preserved g c =
    let reached = reached_next _ _ _ _ _ c.words.invariant.reached c.next.follows.holds-at-none.step in
    search rules

pub returns-in_err-next : goal.returns-in_err-next
returns-in_err-next g c =
    let reached = reached_next _ _ _ _ _ c.words.invariant.reached c.next.follows.holds-at-none.step in
    search rules

pub returns : goal.returns
returns g c =
    let reached = reached_next _ _ _ _ _ c.words.invariant.reached c.next.follows.holds-at-none.step in
    search rules
