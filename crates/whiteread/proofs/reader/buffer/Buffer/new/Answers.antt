use Rattle.std.proofs.Common.{arith}
use Rattle.std.proofs.lemmas.Bool.{false≢true}
use Rattle.whiteread.proofs.BufferLemmas.{no_text}
use Rattle.whiteread.proofs.reader.buffer.Buffer.new.Goals as goal

pub invariant_of-result : goal.invariant_of-result
invariant_of-result c = record {
  line_within = omega arith;
  within = omega arith;
  end_within = omega arith;
  searched_within = omega arith;
  text_within = omega arith;
  no_feed = λ k d lt. absurd (omega (arith, lt));
  feed = λ is. absurd (false≢true is);
  is_text = no_text c.new.result.items 0 0 (omega arith);
  line_is_text = no_text c.new.result.items 0 0 (omega arith);
}
