use Rattle.std.proofs.Common.{◌≡◌, ◌++◌, sym, ap, ◌∙◌, List, ℕ}
use Rattle.std.specs.Str.{chars}
use Rattle.scan_fmt.proofs.Characters.{seam, front_is, front_chars}
use Rattle.scan_fmt.proofs.text.before.Goals as goal

pub split_at-requires : goal.split_at-requires
split_at-requires c = seam c.args.text.now c.requires.0 c.args.rest.now c.requires.1 c.utf8.rest

pub returns-clause-characters : goal.returns-clause-characters
returns-clause-characters c =
    let is : c.split_at.result.0.now ≡ c.requires.0 = c.split_at.ensures.front ∙ front_is c.args.text.now c.requires.0 c.args.rest.now c.requires.1 in
    front_chars c.args.text.now c.requires.0 c.args.rest.now c.requires.1 c.utf8.text c.utf8.rest ∙ ap (λ (t : List ℕ). chars t ++ chars c.args.rest.now) (sym is)
