-- The text before the call may be taken back.
use Rattle.std.specs.Prelude.{string_bytes}
use Rattle.std.proofs.Common.{arith}
use Rattle.std.proofs.lemmas.Str.{IsUtf8-string_bytes}
use Rattle.formatx.proofs.value.push_quoted.Goals as goal

pub take_back-requires : goal.take_back-requires
take_back-requires c =
    (string_bytes c.args.out.now, grind arith, IsUtf8-string_bytes c.args.out.now, c.in-Err.ensures.err)
