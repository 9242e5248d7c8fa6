use Rattle.std.proofs.Common.{◌≡◌, ◌+◌, ◌≤◌, ℕ, List, length, take, drop, slice_range, sym, ◌∙◌, ap, subst, arith}
use Rattle.std.specs.Str.{IsUtf8, is_utf8}
use Rattle.whiteread.specs.Lines.{HasNoFeed}
use Rattle.whiteread.proofs.BufferLemmas.{text_on, front_kept, at_kept, slice_len, slice_rest, slice_join}
use Rattle.whiteread.proofs.reader.buffer.Buffer.accept.Goals as goal

pub invariant_of-self : goal.invariant_of-self
invariant_of-self c =
    let old = c.args.self.now in
    let end = old.end + c.args.count in
    let xs = old.bytes.items in
    let more = c.text_len.result in
    let seen : slice_range c.deref.result.now (old.start + old.text) end ≡ slice_range xs (old.start + old.text) end = ap (λ (l : List ℕ). slice_range l (old.start + old.text) end) c.deref.ensures.value in
    let rest : drop old.text (slice_range xs old.start end) ≡ slice_range xs (old.start + old.text) end = slice_rest xs old.start end old.text (omega (arith, old.text_within)) in
    let long = slice_len xs (old.start + old.text) end c.requires in
    let fits = subst (λ (l : List ℕ). more ≤ length l) seen c.text_len.ensures.within in
    record {
      line_within = old.line_within;
      within = omega (arith, old.within);
      end_within = c.requires;
      searched_within = omega (arith, old.searched_within);
      text_within = omega (arith, fits, long, old.text_within);
      no_feed = subst HasNoFeed (sym (front_kept xs old.start old.end end old.searched old.searched_within (omega arith))) old.no_feed;
      feed = λ is. let at = old.feed is in (omega (arith, at.0), at_kept xs old.start old.end end old.searched at.0 (omega arith) ∙ at.1);
      is_text =
          text_on (slice_range xs old.start end) old.text more (ap is_utf8 (front_kept xs old.start old.end end old.text old.text_within (omega arith)) ∙ old.is_text)
          (subst (λ (l : List ℕ). IsUtf8 (take more l)) (seen ∙ sym rest) c.text_len.ensures.text);
      line_is_text = old.line_is_text;
    }

pub returns-clause-waiting : goal.returns-clause-waiting
returns-clause-waiting c =
    let old = c.args.self.now in
    slice_join old.bytes.items old.start old.end (old.end + c.args.count) old.within (omega arith)
