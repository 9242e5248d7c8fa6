use Rattle.std.proofs.Common.{◌≡◌, Some, rules}
use Rattle.pieces.specs.Inner.Source.{source_of}
use Rattle.pieces.proofs.PrintfLemmas.{field_form_under}
use Rattle.pieces.proofs.printf_layout.field_form.Goals as goal

pub returns-then-has_numbers : goal.returns-then-has_numbers
returns-then-has_numbers c =
    let found : source_of c.args.field.now.conversion_type c.args.kind ≡ Some c.in_ok-source.source = cc c.in_ok-source.ensures in
    field_form_under c.args.field.now c.args.kind c.in_ok-source.source found (c.has_numbers.ensures (search (rules, c.if-has_numbers.true)))
