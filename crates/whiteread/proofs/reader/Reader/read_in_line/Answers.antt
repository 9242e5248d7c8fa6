use Rattle.std.proofs.Common.{refl}
use Rattle.whiteread.specs.Reading.Reach.{reached_read}
use Rattle.whiteread.proofs.InLineLemmas.{Begins, begins, in_line, passed_boundary}
use Rattle.whiteread.proofs.reader.Reader.read_in_line.Goals as goal

pub invariant_of-self : goal.invariant_of-self
invariant_of-self g c =
    let begin : Begins c.args.self.now c.from_parts-words.result = begins _ _ _ c.current_line.ensures c.from_parts-words.ensures.text c.from_parts-words.ensures.position in
    record {
      within = c.args.self.now.within;
      full = c.args.self.now.full;
      no_line = c.args.self.now.no_line;
      boundary = passed_boundary _ _ _ _ begin (reached_read _ _ _ _ _ c.read-answer.ensures) c.position-self.ensures.place c.position-self.ensures.boundary;
    }

pub returns : goal.returns
returns g c =
    let begin : Begins c.args.self.now c.from_parts-words.result = begins _ _ _ c.current_line.ensures c.from_parts-words.ensures.text c.from_parts-words.ensures.position in
    in_line _ c.args.self.now _ _ c.from_parts-words.result c.read-answer.new.it begin c.read-answer.ensures (reached_read _ _ _ _ _ c.read-answer.ensures) c.position-self.ensures.place
    (record { source = refl; limit = refl; taken = refl; past = refl; waiting = refl; line = refl; row = refl; faults = λ _. refl })
