-- What a text names is what the map has at it.
use Rattle.std.proofs.Common.{◌≡◌, List, ℕ, ap, ◌∙◌, sym}
use Rattle.formatx.specs.Scene.{named}
use Rattle.formatx.proofs.NameLemmas.{pairs, named_pairs}
use Rattle.formatx.proofs.names.Names.position.Goals as goal

pub returns : goal.returns
returns c =
    let view : pairs c.self.inside.positions.entries ≡ c.args.self.now = cc in
    c.copied.ensures ∙ c.get.ensures.value ∙ sym (named_pairs c.args.name.now c.self.inside.positions.entries) ∙ ap (λ (ps : List (List ℕ × ℕ)). named ps c.args.name.now) view
