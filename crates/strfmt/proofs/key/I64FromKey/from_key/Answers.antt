use Rattle.std.proofs.Common.{refl}
use Rattle.std.specs.Int.{w64}
use Rattle.strfmt.proofs.KeyLemmas.{signed_key}
use Rattle.strfmt.proofs.key.I64FromKey.from_key.Goals as goal

pub returns : goal.returns
returns c = rw c.ok.ensures.value (signed_key w64 64 c.args.key.now c.from_str_radix.result refl c.from_str_radix.ensures.value)
