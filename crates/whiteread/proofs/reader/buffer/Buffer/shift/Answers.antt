use Rattle.std.proofs.Common.{◌≡◌, ◌-◌, ℕ, List, length, take, get_or, slice_range, sym, ◌∙◌, ap, subst, arith}
use Rattle.std.specs.Str.{is_utf8}
use Rattle.whiteread.specs.Lines.{HasNoFeed}
use Rattle.whiteread.proofs.BufferLemmas.{no_text, moved, moved_len}
use Rattle.whiteread.proofs.reader.buffer.Buffer.shift.Goals as goal

pub invariant_of-self : goal.invariant_of-self
invariant_of-self c =
    let old = c.args.self.now in
    let xs = old.bytes.items in
    let ys = c.copy_within.new.self.items in
    let count = old.end - old.start in
    let is : slice_range ys 0 count ≡ slice_range xs old.start old.end = ap (λ (l : List ℕ). slice_range l 0 count) c.copy_within.ensures.items ∙ moved xs old.start old.end old.within old.end_within in
    let long : length ys ≡ length xs = ap (λ (l : List ℕ). length l) c.copy_within.ensures.items ∙ moved_len xs old.start old.end old.within old.end_within in
    record {
      line_within = omega arith;
      within = omega arith;
      end_within = omega (arith, long, old.end_within);
      searched_within = omega (arith, old.searched_within);
      text_within = omega (arith, old.text_within);
      no_feed = subst (λ (l : List ℕ). HasNoFeed (take old.searched l)) (sym is) old.no_feed;
      feed = λ has. let at = old.feed has in (omega (arith, at.0), ap (λ (l : List ℕ). get_or l old.searched 0) is ∙ at.1);
      is_text = ap (λ (l : List ℕ). is_utf8 (take old.text l)) is ∙ old.is_text;
      line_is_text = no_text ys 0 0 (omega arith);
    }
