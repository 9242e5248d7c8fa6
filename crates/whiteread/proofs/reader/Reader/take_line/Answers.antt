use Rattle.whiteread.proofs.AwaitLemmas.{no_feed_rest, boundary_taken}
use Rattle.whiteread.proofs.reader.Reader.take_line.Goals as goal

pub invariant_of-self : goal.invariant_of-self
invariant_of-self g c =
    let old = c.args.self.now in record {
      within = old.within;
      full = old.full;
      no_line = λ past. no_feed_rest _ c.args.len _ c.take_line-is_text.ensures.waiting (old.no_line past);
      boundary = boundary_taken _ _ _ _ c.take_line-is_text.ensures.line c.take_line-is_text.ensures.text.0 c.requires.none_passed;
    }

pub invariant_of-self-else-not-is_text : goal.invariant_of-self-else-not-is_text
invariant_of-self-else-not-is_text g c =
    let old = c.args.self.now in record {
      within = old.within;
      full = old.full;
      no_line = λ past. no_feed_rest _ c.args.len _ c.take_line-is_text.ensures.waiting (old.no_line past);
      boundary = boundary_taken _ _ _ _ c.take_line-is_text.ensures.line c.take_line-is_text.ensures.text.0 c.requires.none_passed;
    }
