use Rattle.std.proofs.Common.{◌≡◌, ◌++◌, List, ℕ, ap, sym, ◌∙◌}
use Rattle.std.specs.Prelude.{string_bytes, encode_utf8, encode_utf8_all}
use Rattle.std.specs.Str.{chars}
use Rattle.std.proofs.lemmas.Iterator.{YieldsList-from_chars}
use Rattle.std.proofs.lemmas.Iterator.Consumers.{YieldsList-end}
use Rattle.std.proofs.lemmas.List.{map-id}
use Rattle.std.proofs.lemmas.Str.{encodes-chars}
use Rattle.row_format.specs.Planned.{escaped}
use Rattle.translation.proofs.Braces.{escaped_more}
use Rattle.translation.proofs.elements.push_escaped.Goals as goal

pub characters-preserved : goal.characters-preserved
characters-preserved c =
    let more : string_bytes c.push_character.new.text ≡ string_bytes c.characters.text ++ escaped (encode_utf8 c.in-Some.character) = c.in_ok-push_character.ensures.ok in
    let done : string_bytes c.characters.text ≡ string_bytes c.args.text.now ++ escaped (encode_utf8_all c.characters.yielded) = c.characters.invariant in
    more ∙ ap (λ (t : List ℕ). t ++ escaped (encode_utf8 c.in-Some.character)) done ∙ escaped_more (string_bytes c.args.text.now) c.characters.yielded c.in-Some.character

pub returns-clause-ok : goal.returns-clause-ok
returns-clause-ok c =
    let old = string_bytes c.args.text.now in
    let t = YieldsList-end (YieldsList-from_chars c.args.literal.now c.utf8.literal cc) c.characters.yielded _ c.characters.yielded_by _ _ c.in-None.is c.next.ensures.steps in
    let all : c.characters.yielded ≡ chars c.args.literal.now = sym (map-id c.characters.yielded) ∙ t.0 in
    let done : string_bytes c.characters.text ≡ old ++ escaped (encode_utf8_all c.characters.yielded) = c.characters.invariant in
    done ∙ ap (λ (cs : List ℕ). old ++ escaped (encode_utf8_all cs)) all ∙ ap (λ (bs : List ℕ). old ++ escaped bs) (encodes-chars c.args.literal.now c.utf8.literal)
