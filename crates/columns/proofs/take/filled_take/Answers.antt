use Rattle.std.proofs.Common.{◌≡◌, true, false, Some}
use Rattle.sprintf.specs.Field.{number_of}
use Rattle.columns.proofs.Filled.{serves_filled}
use Rattle.columns.proofs.take.filled_take.Goals as goal

pub returns : goal.returns
returns c =
    let filled : (c.args.field.now.field.zero_pad ≡ true) × (c.args.field.now.field.left_adj ≡ false) = rw c.field.ensures at (c.is_filled.ensures c.if-not-is_filled.false) in
    let width : number_of c.args.field.now.field.width ≡ Some c.in_ok-width.width = rw c.field-2.ensures at c.in_ok-width.ensures in
    serves_filled c.numeral_of_value.ensures c.args.field.now.field c.args.kind c.args.field.now.after c.in_ok-greatest.greatest c.in_ok-width.width c.most_digits.result c.requires width filled.1 filled.0 c.in_ok-greatest.ensures
