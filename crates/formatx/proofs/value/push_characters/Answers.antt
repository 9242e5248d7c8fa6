-- At the end each character was escaped.
use Rattle.std.proofs.Common.{◌≡◌, ℕ, List, [], ◌∷◌, ◌++◌, ◌∙◌, sym, ap, append_assoc, arith}
use Rattle.std.specs.Prelude.{string_bytes, flat_map}
use Rattle.std.specs.Str.{chars}
use Rattle.std.proofs.lemmas.Iterator.{YieldsList-from_chars}
use Rattle.std.proofs.lemmas.Iterator.Consumers.{YieldsList-end}
use Rattle.std.proofs.lemmas.Bool.Decides.{nat_tests}
use Rattle.std.proofs.lemmas.List.{map-id}
use Rattle.formatx.specs.Values.{escaped}
use Rattle.formatx.specs.Inner.Parts.{quoted}
use Rattle.formatx.proofs.value.push_characters.Goals as goal

pub returns-clause-ok : goal.returns-clause-ok
returns-clause-ok c =
    let old = string_bytes c.args.out.now in
    let q = c.args.quote in
    let t = YieldsList-end (YieldsList-from_chars c.args.text.now c.utf8.text cc) c.characters.yielded _ c.characters.yielded_by _ _ c.in-None.is c.next.ensures.steps in
    let all : c.characters.yielded ≡ chars c.args.text.now = sym (map-id c.characters.yielded) ∙ t.0 in
    let now : string_bytes c.push-2.new.self ≡ string_bytes c.characters.out ++ q ∷ [] = grind (arith, nat_tests) in
    now
    ∙ ap (λ (xs : List ℕ). xs ++ q ∷ []) c.characters.invariant
    ∙ append_assoc old (q ∷ flat_map (escaped q) c.characters.yielded) (q ∷ [])
    ∙ ap (λ (cs : List ℕ). old ++ quoted q cs) all
