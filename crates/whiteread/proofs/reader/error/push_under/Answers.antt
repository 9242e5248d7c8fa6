-- At the end what stands under each character was pushed.
use Rattle.std.proofs.Common.{◌≡◌, ◌++◌, ◌∙◌, sym, ap}
use Rattle.std.specs.Prelude.{string_bytes, map, min, chars}
use Rattle.std.proofs.lemmas.Iterator.{YieldsList-from_chars}
use Rattle.std.proofs.lemmas.Iterator.Consumers.{YieldsList-end}
use Rattle.std.proofs.lemmas.List.{map-id}
use Rattle.whiteread.proofs.reader.error.push_under.Goals as goal

pub returns : goal.returns
returns c =
    let t = YieldsList-end (YieldsList-from_chars c.args.text.now c.utf8.text cc) c.characters.yielded _ c.characters.yielded_by _ _ c.in-None.is c.next.ensures.steps in
    let all : c.characters.yielded ≡ chars c.args.text.now = sym (map-id c.characters.yielded) ∙ t.0 in
    c.characters.invariant ∙ ap (λ cs. string_bytes c.args.out.now ++ map (λ x. min x 32) cs) all
