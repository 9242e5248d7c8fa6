use Rattle.std.proofs.Common.{refl}
use Rattle.whiteread.specs.Reading.Whole.{WholeCall}
use Rattle.whiteread.specs.Words.Split.{split_stream}
use Rattle.whiteread.proofs.InLineLemmas.{reached_whole}
use Rattle.whiteread.proofs.InLineLemmas.{Begins, begins, in_line, passed_boundary}
use Rattle.whiteread.proofs.reader.Reader.read_whole_line.Goals as goal

pub invariant_of-self : goal.invariant_of-self
invariant_of-self g c =
    let begin : Begins c.args.self.now c.from_parts-words.result = begins _ _ _ c.current_line.ensures c.from_parts-words.ensures.text c.from_parts-words.ensures.position in
    record {
      within = c.args.self.now.within;
      full = c.args.self.now.full;
      no_line = c.args.self.now.no_line;
      boundary = passed_boundary _ _ _ _ begin (reached_whole split_stream g.T.FromStream.reading c.from_parts-words.result c.read_whole-answer.result c.read_whole-answer.new.words c.read_whole-answer.ensures) c.position-self.ensures.place c.position-self.ensures.boundary;
    }

pub returns : goal.returns
returns g c =
    let begin : Begins c.args.self.now c.from_parts-words.result = begins _ _ _ c.current_line.ensures c.from_parts-words.ensures.text c.from_parts-words.ensures.position in
    in_line (WholeCall split_stream g.T.FromStream.reading) c.args.self.now c.read_whole-answer.result _ c.from_parts-words.result c.read_whole-answer.new.words begin c.read_whole-answer.ensures (reached_whole split_stream g.T.FromStream.reading c.from_parts-words.result c.read_whole-answer.result c.read_whole-answer.new.words c.read_whole-answer.ensures) c.position-self.ensures.place
    (record { source = refl; limit = refl; taken = refl; past = refl; waiting = refl; line = refl; row = refl; faults = λ _. refl })
