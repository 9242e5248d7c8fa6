use Rattle.std.proofs.Common.{Ok, ap, length, length-append, arith}
use Rattle.whiteread.specs.Words.{Words}
use Rattle.whiteread.proofs.laws.eats_a_word.Goals as goal

pub returns : goal.returns
returns g c = λ words value rest read.
    let taken = g.met.T.FromStream.is_reading words (Ok value) rest read in
    omega (arith, ap (λ (w : Words). length w) taken.1, length-append taken.0 rest, taken.2, g.met.T.Eats.eats)
