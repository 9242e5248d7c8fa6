use Rattle.std.proofs.Common.{◌++◌, List, ℕ, ap, ◌∙◌}
use Rattle.std.specs.Prelude.{string_bytes}
use Rattle.translation.specs.Inner.Options.{written}
use Rattle.translation.proofs.Braces.{some_written, with_colon}
use Rattle.translation.proofs.options.Options.push.Goals as goal

pub returns-clause-ok : goal.returns-clause-ok
returns-clause-ok c =
    let text = written c.args.target c.args.self.now in
    c.in_ok-push_written.ensures.ok ∙ ap (λ (t : List ℕ). t ++ text) c.in_ok-push_str.ensures.bytes ∙ with_colon (string_bytes c.args.text.now) text (some_written c.args.target c.args.self.now (λ e. let k = rw e at c.if-eq.ensures in absurd cc))
