use Rattle.std.proofs.Common.{ap, ◌∙◌, arith}
use Rattle.std.proofs.Math.ListN.{drop_of_length-le}
use Rattle.std.specs.Fmt.{digits_onto}
use Rattle.numerals.proofs.Unique.{numeral_spelled}
use Rattle.numerals.proofs.write.write_wide.Goals as goal

pub digits-init : goal.digits-init
digits-init c = (
  omega arith,
  c.ranges.n.fits,
  c.told-out,
  ap (digits_onto 128 c.args.base c.args.upper c.args.n) (drop_of_length-le c.args.out.now {i = 128} (omega (arith, c.told-out))) ∙ numeral_spelled c.args.base c.args.n c.args.upper,
)
