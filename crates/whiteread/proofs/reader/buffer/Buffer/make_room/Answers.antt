use Rattle.std.proofs.Common.{◌≡◌, ◌-◌, ℕ, List, take, get_or, slice_range, sym, ◌∙◌, ap, subst, arith}
use Rattle.std.specs.Str.{is_utf8}
use Rattle.whiteread.specs.Lines.{HasNoFeed}
use Rattle.whiteread.proofs.BufferLemmas.{grown_front, front_within, slice_same}
use Rattle.whiteread.proofs.reader.buffer.Buffer.make_room.Goals as goal

pub invariant_of-self : goal.invariant_of-self
invariant_of-self c =
    let old = c.shift.new.self in
    let xs = old.bytes.items in
    let ys = c.resize.new.self.items in
    let front : take old.end ys ≡ take old.end xs =
    ap (take old.end) c.resize.ensures.items ∙ grown_front _ xs c.in_ok-room.room _ old.end (omega (arith, c.if-len-room.true, c.len.ensures, old.bytes.ok.0)) old.end_within in
    let is : slice_range ys old.start old.end ≡ slice_range xs old.start old.end = slice_same ys xs old.start old.end old.end front (omega arith) in
    record {
      line_within = old.line_within;
      within = old.within;
      end_within = front_within xs ys old.end front old.end_within;
      searched_within = old.searched_within;
      text_within = old.text_within;
      no_feed = subst (λ (l : List ℕ). HasNoFeed (take old.searched l)) (sym is) old.no_feed;
      feed = λ has. let at = old.feed has in (at.0, ap (λ (l : List ℕ). get_or l old.searched 0) is ∙ at.1);
      is_text = ap (λ (l : List ℕ). is_utf8 (take old.text l)) is ∙ old.is_text;
      line_is_text = ap is_utf8 (slice_same ys xs (old.start - old.line) old.start old.end front old.within) ∙ old.line_is_text;
    }
