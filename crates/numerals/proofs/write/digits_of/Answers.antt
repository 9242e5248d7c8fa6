use Rattle.std.proofs.Common.{◌≡◌, ◌-◌, length, drop, take, sym, ◌∙◌, subst}
use Rattle.std.specs.Str.{IsUtf8}
use Rattle.std.proofs.lemmas.List.{take_rest}
use Rattle.numerals.specs.Numeral.{base_of, numeral}
use Rattle.numerals.proofs.Reading.{numeral-IsUtf8, base_of-le}
use Rattle.numerals.proofs.write.digits_of.Goals as goal

pub from_utf8_unchecked-requires : goal.from_utf8_unchecked-requires
from_utf8_unchecked-requires c =
    let it = c.write_digits-start in
    let text : take (length it.new.out - it.result) (drop it.result it.new.out) ≡ numeral (base_of c.args.radix) c.args.upper c.args.n = take_rest it.new.out it.result ∙ it.ensures.digits in
    let base = base_of-le c.args.radix in
    subst IsUtf8 (sym text) (numeral-IsUtf8 (base_of c.args.radix) c.args.n c.args.upper base.0 base.1 c.ranges.n.fits)
