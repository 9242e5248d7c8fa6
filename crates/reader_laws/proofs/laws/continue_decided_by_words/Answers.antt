use Rattle.reader_laws.proofs.DecideLemmas.{good_related}
use Rattle.whiteread.specs.Located.{inner_answer}
use Rattle.reader_laws.proofs.laws.continue_decided_by_words.Goals as goal

pub returns : goal.returns
returns g c = λ words one other first second room_one room_other.
    let cheap = g.T.FromStream.REQUEST_CHEAP_ERROR in
    let a = good_related g.A.Source.supply g.T.FromStream.reading cheap words one first room_one in
    let b = good_related g.B.Source.supply g.T.FromStream.reading cheap words other second room_other in
    (g.met.T.Alike.one words (inner_answer one) (inner_answer other) a.0 b.0 a.1 b.1).0
