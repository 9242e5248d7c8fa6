use Rattle.std.proofs.Common.{rules, ◌≡◌, ◌<◌, length, get_or}
use Rattle.numerals.specs.Laws.{HasNoLeadingZero}
use Rattle.values.proofs.DecimalLemmas.{no_zero_in_front, no_digits, fitted}
use Rattle.values.proofs.decimal.read_decimal.Goals as goal

pub returns-then-has_leading_zero : goal.returns-then-has_leading_zero
returns-then-has_leading_zero c =
    let long : 1 < length c.args.text.now = search rules in
    let first : get_or c.args.text.now 0 0 ≡ 48 = search rules in
    λ place small. no_zero_in_front c.args.text.now place small long first

pub returns-in_err-number : goal.returns-in_err-number
returns-in_err-number c = rw c.from_residual.ensures (no_digits c.args.text.now c.in_err-number.ensures)

pub returns : goal.returns
returns c =
    let lead : HasNoLeadingZero c.args.text.now = search rules in
    rw c.ok.ensures.value (fitted c.args.text.now c.in_ok-number.number c.try_from.result c.try_from.ensures c.in_ok-number.ensures lead)
