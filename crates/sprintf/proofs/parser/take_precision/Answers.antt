use Rattle.std.proofs.Common.{◌≡◌, ◌≢◌, ℕ, ◌∷◌, [], List, Some, None, arith, refl}
use Rattle.std.proofs.lemmas.Str.Pattern.{strip_prefix_char}
use Rattle.sprintf.specs.Inner.Reading.{read_precision}
use Rattle.sprintf.proofs.Runs.{differs}
use Rattle.sprintf.proofs.parser.take_precision.Goals as goal

read_precision-plain : (text : List ℕ) → ((rest : List ℕ) → text ≢ 46 ∷ rest) → read_precision text ≡ Some (None, text)
read_precision-plain [] h = refl
read_precision-plain (c ∷ text) h = rw (differs c 46 text h) refl

pub returns-in_default-clause-some : goal.returns-in_default-clause-some
returns-in_default-clause-some c =
    let plain : (rest : List ℕ) → c.args.text.now ≢ 46 ∷ rest = rw c.in_default.is at (strip_prefix_char 46 c.args.text.now c.strip_prefix.result c.strip_prefix.ensures.cases (omega arith)) in
    read_precision-plain c.args.text.now plain
