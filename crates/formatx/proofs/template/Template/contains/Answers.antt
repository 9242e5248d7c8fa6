-- The names are those of the template's segments.
use Rattle.std.proofs.Common.{◌≡◌, List, ℕ, refl, subst}
use Rattle.std.specs.Prelude.{◌↔◌, Contains, IsTrue, string_bytes}
use Rattle.formatx.specs.Grammar.{Spells}
use Rattle.formatx.specs.Inner.Parts.{names_in}
use Rattle.formatx.proofs.template.Template.contains.Goals as goal

pub returns : goal.returns
returns c =
    let segments = c.self.inside.parsed.segments.items in
    let source : c.as_str.result.now ≡ c.args.self.now = cc in
    let list : c.as_slice.result.now ≡ segments = cc in
    let same : string_bytes c.self.inside.source ≡ c.args.self.now = cc in
    let both : IsTrue c.has_name.result ↔ Contains (names_in c.args.self.now segments) c.args.name.now = rw (source, list) at c.has_name.ensures in
    (names_in c.args.self.now segments, (segments, subst (λ (xs : List ℕ). Spells xs segments) same c.self.invariant.0, refl), both)
