-- The text has 79 tildes.
use Rattle.std.proofs.Common.{refl}
use Rattle.whiteread.specs.Located.{rule}
use Rattle.whiteread.proofs.reader.error.rule_of_tildes.Goals as goal

pub returns : goal.returns
unfolding rule
returns c = refl
