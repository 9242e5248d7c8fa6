use Rattle.columns.proofs.Forms.{bits_taken}
use Rattle.columns.proofs.hexadecimal.take_bits.Goals as goal

pub returns : goal.returns
returns c = bits_taken c.args.text.now c.in_ok-digits.digits.now c.in_ok-bits.rest.now c.in_ok-bits.bits c.in_ok-widened.field-0 c.args.form c.in_ok-digits.ensures c.in_ok-bits.ensures c.in_ok-widened.ensures
