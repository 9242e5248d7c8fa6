use Rattle.std.proofs.Common.{◌≡◌, ◌+◌, ◌-◌, ℕ, List, take, drop, slice_range, sym, ◌∙◌, ap, arith}
use Rattle.std.specs.Str.{is_utf8}
use Rattle.std.proofs.lemmas.Bool.{false≢true}
use Rattle.whiteread.specs.ReaderState.Buffer.{buffer_waiting}
use Rattle.whiteread.proofs.BufferLemmas.{no_text, text_behind, slice_len, slice_rest}
use Rattle.whiteread.proofs.reader.buffer.Buffer.pass.Goals as goal

pub invariant_of-self : goal.invariant_of-self
invariant_of-self c =
    let old = c.args.self.now in
    let len = c.args.len in
    let long = slice_len old.bytes.items old.start old.end old.end_within in
    let inside = c.requires.within in
    let left : drop len (buffer_waiting old) ≡ slice_range old.bytes.items (old.start + len) old.end = slice_rest old.bytes.items old.start old.end len (omega (arith, inside, long, old.within)) in
    let sub = c.saturating_sub-self.ensures in
    record {
      line_within = omega arith;
      within = omega (arith, inside, long, old.within);
      end_within = old.end_within;
      searched_within = omega (arith, inside, long, old.within);
      text_within = omega (arith, inside, long, old.within, old.text_within, sub);
      no_feed = λ k d lt. absurd (omega (arith, lt));
      feed = λ is. absurd (false≢true is);
      is_text =
          ap (λ (n : ℕ). is_utf8 (take n (slice_range old.bytes.items (old.start + len) old.end))) sub ∙ ap (λ (l : List ℕ). is_utf8 (take (old.text - len) l)) (sym left)
          ∙ text_behind (buffer_waiting old) len old.text inside (omega (arith, long, old.text_within)) old.is_text c.requires.first;
      line_is_text = no_text old.bytes.items _ (old.start + len) (omega arith);
    }

pub returns-clause-waiting : goal.returns-clause-waiting
returns-clause-waiting c =
    let old = c.args.self.now in
    let long = slice_len old.bytes.items old.start old.end old.end_within in
    let inside = c.requires.within in
    sym (slice_rest old.bytes.items old.start old.end c.args.len (omega (arith, inside, long, old.within)))
