use Rattle.std.proofs.Common.{◌≡◌, Some, rules}
use Rattle.pieces.specs.Inner.Layout.{form_of}
use Rattle.pieces.proofs.PrintfLemmas.{plain_form_under}
use Rattle.pieces.proofs.printf_layout.plain_form.Goals as goal

pub returns-then-is_plain : goal.returns-then-is_plain
returns-then-is_plain c =
    let found : form_of c.args.kind ≡ Some c.in_ok-form.form = cc c.in_ok-form.ensures in
    plain_form_under c.args.field.now c.args.kind c.in_ok-form.form found (c.is_plain.ensures (search (rules, c.if-is_plain.true)))
