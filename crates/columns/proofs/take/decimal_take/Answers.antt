use Rattle.std.proofs.Common.{◌≡◌, Some, arith}
use Rattle.sprintf.specs.Field.{number_of}
use Rattle.columns.proofs.Fields.{serves_natural}
use Rattle.columns.proofs.take.decimal_take.Goals as goal

pub returns : goal.returns
returns c =
    let none : c.in_ok-number_in.field-0 ≡ 0 = omega (arith, c.if-branch-ne0.false) in
    let width : number_of c.args.field.now.field.width ≡ Some 0 = rw (c.field.ensures, none) at c.in_ok-number_in.ensures in
    serves_natural c.numeral_of_value.ensures c.args.field.now.field c.args.kind c.args.field.now.after c.in_ok-greatest_of.field-0 c.requires width c.in_ok-greatest_of.ensures
