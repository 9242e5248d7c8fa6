use Rattle.std.proofs.Common.{◌≢◌, get_or}
use Rattle.numerals.proofs.Digits.{reads_text, no_plus}
use Rattle.numerals.proofs.read.read_digits.Goals as goal

pub returns : goal.returns
unfolding lib.Utf8.encode
returns c =
    let plain : get_or c.args.text.now 0 0 ≢ 43 = no_plus c.args.text.now c.if-starts_with.ensures.cases in
    rw (c.ok.ensures.value, ← c.base.ensures.value) (reads_text _ _ c.from_str_radix.result plain c.from_str_radix.ensures.value)
