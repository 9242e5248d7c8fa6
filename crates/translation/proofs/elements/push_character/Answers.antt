use Rattle.std.proofs.Common.{◌++◌, List, ℕ, ap, sym, ◌∙◌, arith}
use Rattle.std.specs.Prelude.{string_bytes}
use Rattle.translation.proofs.Braces.{escaped_character}
use Rattle.translation.proofs.elements.push_character.Goals as goal

pub returns-in_ok-push-clause-ok : goal.returns-in_ok-push-clause-ok
returns-in_ok-push-clause-ok c = c.in_ok-push.ensures.bytes ∙ ap (λ (t : List ℕ). string_bytes c.args.text.now ++ t) (sym (escaped_character c.args.character (omega arith) (omega arith)))
