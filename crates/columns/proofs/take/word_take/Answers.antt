use Rattle.std.proofs.Common.{◌≡◌, Some, arith}
use Rattle.sprintf.specs.Field.{number_of}
use Rattle.columns.specs.Inner.Serves.{IsStop}
use Rattle.columns.proofs.Words.{serves_word}
use Rattle.columns.proofs.take.word_take.Goals as goal

pub returns : goal.returns
returns c =
    let none : c.in_ok-number_in.field-0 ≡ 0 = omega (arith, c.if-branch-ne0.false) in
    let width : number_of c.args.field.now.field.width ≡ Some 0 = rw (c.field.ensures, none) at c.in_ok-number_in.ensures in
    let precision : number_of c.args.field.now.field.precision ≡ Some c.in_ok-number_in-2.field-0 = rw c.field-2.ensures at c.in_ok-number_in-2.ensures in
    let stop : IsStop c.args.field.now.after c.in_ok-stop_of.field-0 = rw c.after.ensures at c.in_ok-stop_of.ensures in
    serves_word c.args.field.now.field c.args.kind c.args.field.now.after c.in_ok-stop_of.field-0 c.in_ok-number_in-2.field-0 c.in-Word.is c.requires width precision (omega (arith, c.if-branch-ne-LONGEST.false)) stop
