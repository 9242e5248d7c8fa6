-- The text before the `-` may be taken back.
use Rattle.std.specs.Prelude.{string_bytes}
use Rattle.std.proofs.Common.{◌≡◌, ◌∷◌, [], ◌++◌, arith}
use Rattle.std.proofs.lemmas.Bool.Decides.{nat_tests}
use Rattle.std.proofs.lemmas.Str.{IsUtf8-string_bytes}
use Rattle.formatx.proofs.value.push_signed.Goals as goal

pub take_back-requires : goal.take_back-requires
take_back-requires c =
    let now : string_bytes c.push_unsigned-2.new.out ≡ string_bytes c.args.out.now ++ 45 ∷ [] = grind (arith, nat_tests) in
    (string_bytes c.args.out.now, grind arith, IsUtf8-string_bytes c.args.out.now, (45 ∷ [], now))
