use Rattle.std.proofs.Common.{arith}
use Rattle.whiteread.proofs.BufferLemmas.{no_text}
use Rattle.whiteread.proofs.reader.buffer.Buffer.clear_line.Goals as goal

pub invariant_of-self : goal.invariant_of-self
invariant_of-self c =
    let old = c.args.self.now in record {
      line_within = omega arith;
      within = old.within;
      end_within = old.end_within;
      searched_within = old.searched_within;
      text_within = old.text_within;
      no_feed = old.no_feed;
      feed = old.feed;
      is_text = old.is_text;
      line_is_text = no_text old.bytes.items _ old.start (omega arith);
    }
