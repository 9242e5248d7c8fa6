use Rattle.strfmt.proofs.KeyLemmas.{unsigned_key}
use Rattle.strfmt.proofs.key.U128FromKey.from_key.Goals as goal

pub returns : goal.returns
returns c = rw c.ok.ensures.value (unsigned_key 128 c.args.key.now c.from_str_radix.result c.from_str_radix.ensures.value)
