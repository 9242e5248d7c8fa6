use Rattle.std.proofs.Common.{◌++◌, List, ℕ, false, ap, ◌∙◌}
use Rattle.std.specs.Prelude.{codes, string_bytes}
use Rattle.numerals.specs.Numeral.{numeral}
use Rattle.translation.specs.Inner.Options.{behind_colon, written}
use Rattle.translation.proofs.Braces.{field_parts}
use Rattle.translation.proofs.field.Field.push.Goals as goal

pub returns-clause-ok : goal.returns-clause-ok
returns-clause-ok c =
    let text = written c.args.target c.args.self.now.options in
    c.in_ok-push_str-3.ensures.bytes
    ∙ ap (λ (t : List ℕ). t ++ codes "}") (c.in_ok-push.ensures.ok
    ∙ ap (λ (t : List ℕ). t ++ behind_colon text) (c.in_ok-push_digits.ensures.ok
    ∙ ap (λ (t : List ℕ). t ++ numeral 10 false c.args.number) (c.in_ok-push_str-2.ensures.bytes
    ∙ ap (λ (t : List ℕ). t ++ codes "{") c.in_ok-push_str.ensures.bytes)))
    ∙ field_parts (string_bytes c.args.text.now) c.args.self.now.prefix.now text c.args.number
