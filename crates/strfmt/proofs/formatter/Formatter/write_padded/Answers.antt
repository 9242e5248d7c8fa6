use Rattle.std.proofs.Common.{rules, ◌≡◌, ◌-◌, ◌∙◌, length, ap, Some, ℕ}
use Rattle.std.specs.Prelude.{unwrap_or}
use Rattle.std.specs.Str.{chars}
use Rattle.strfmt.specs.Field.{sides}
use Rattle.strfmt.proofs.FieldLemmas.{laid_bytes}
use Rattle.strfmt.proofs.formatter.Formatter.write_padded.Goals as goal

pub returns : goal.returns
returns c =
    let missing : c.saturating_sub-missing.result ≡ unwrap_or c.args.self.now.spec.width 0 - length (chars c.args.text.now) = search rules in
    let shared : Some (c.in-Some.left, c.in-Some.right) ≡ sides c.args.self.now.spec.align c.saturating_sub-missing.result = search rules in
    let is = shared ∙ ap (λ (n : ℕ). sides c.args.self.now.spec.align n) missing in
    let e = laid_bytes c.args.self.now.spec c.args.front.now c.args.text.now (c.in-Some.left, c.in-Some.right) c.utf8.text is in
    rw e (search rules)
