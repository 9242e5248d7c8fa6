use Rattle.std.proofs.Common.{◌≡◌, ◌+◌, ◌-◌, ◌++◌, ℕ, List, [], length, take, drop, get_or, slice_range, sym, ◌∙◌, ap, subst, arith, append-nil, refl}
use Rattle.std.specs.Str.{is_utf8}
use Rattle.whiteread.specs.Lines.{HasNoFeed}
use Rattle.whiteread.specs.ReaderState.Buffer.{buffer_waiting}
use Rattle.whiteread.proofs.BufferLemmas.{front_within, slice_same, slice_len, written}
use Rattle.whiteread.proofs.reader.buffer.Buffer.read_from.Goals as goal

pub invariant_of-self : goal.invariant_of-self
invariant_of-self g c =
    let old = c.make_room.new.self in
    let xs = old.bytes.items in
    let ys = c.read_between.new.bytes in
    let size : length ys ≡ length xs = c.read_between.auto.bytes ∙ ap length c.deref_mut.ensures.value in
    let zs : List ℕ = take old.bytes.len (ys ++ drop (length ys) xs) in
    let same : zs ≡ ys = written xs ys old.bytes.len (omega (arith, old.bytes.ok.0)) size in
    let front : take old.end zs ≡ take old.end xs = ap (take old.end) same ∙ c.read_between.ensures.front ∙ ap (take old.end) c.deref_mut.ensures.value in
    let is : slice_range zs old.start old.end ≡ slice_range xs old.start old.end = slice_same zs xs old.start old.end old.end front (omega arith) in
    record {
      line_within = old.line_within;
      within = old.within;
      end_within = front_within xs zs old.end front old.end_within;
      searched_within = old.searched_within;
      text_within = old.text_within;
      no_feed = subst (λ (l : List ℕ). HasNoFeed (take old.searched l)) (sym is) old.no_feed;
      feed = λ has. let at = old.feed has in (at.0, ap (λ (l : List ℕ). get_or l old.searched 0) is ∙ at.1);
      is_text = ap (λ (l : List ℕ). is_utf8 (take old.text l)) is ∙ old.is_text;
      line_is_text = ap is_utf8 (slice_same zs xs (old.start - old.line) old.start old.end front old.within) ∙ old.line_is_text;
    }

pub returns-in-Ok-clause-bytes : goal.returns-in-Ok-clause-bytes
returns-in-Ok-clause-bytes g c =
    let old = c.make_room.new.self in
    let xs = old.bytes.items in
    let ys = c.read_between.new.bytes in
    let count = c.in-Ok.count in
    let got = slice_range ys old.end (old.end + count) in
    let size : length ys ≡ length xs = c.read_between.auto.bytes ∙ ap length c.deref_mut.ensures.value in
    let zs : List ℕ = take old.bytes.len (ys ++ drop (length ys) xs) in
    let same : zs ≡ ys = written xs ys old.bytes.len (omega (arith, old.bytes.ok.0)) size in
    let front : take old.end zs ≡ take old.end xs = ap (take old.end) same ∙ c.read_between.ensures.front ∙ ap (take old.end) c.deref_mut.ensures.value in
    let is : slice_range zs old.start old.end ≡ slice_range xs old.start old.end = slice_same zs xs old.start old.end old.end front (omega arith) in
    let room = c.in_ok-room.ensures.room in
    let within = c.in-Ok.ensures.got.1 in
    let long : length got ≡ count = slice_len ys old.end (old.end + count) (omega (arith, within, room.1, size)) ∙ omega arith in (
      got,
      c.in-Ok.ensures.got.0,
      c.accept.ensures.waiting ∙ ap (λ (l : List ℕ). l ++ slice_range zs old.end (old.end + count)) (is ∙ c.make_room.ensures.waiting)
          ∙ ap (λ (l : List ℕ). buffer_waiting c.args.self.now ++ slice_range l old.end (old.end + count)) same,
      omega (arith, long, within, room.0),
      sym long,
    )

pub returns-in-Err-clause-bytes : goal.returns-in-Err-clause-bytes
returns-in-Err-clause-bytes g c =
    let old = c.make_room.new.self in
    let xs = old.bytes.items in
    let ys = c.read_between.new.bytes in
    let size : length ys ≡ length xs = c.read_between.auto.bytes ∙ ap length c.deref_mut.ensures.value in
    let zs : List ℕ = take old.bytes.len (ys ++ drop (length ys) xs) in
    let same : zs ≡ ys = written xs ys old.bytes.len (omega (arith, old.bytes.ok.0)) size in
    let front : take old.end zs ≡ take old.end xs = ap (take old.end) same ∙ c.read_between.ensures.front ∙ ap (take old.end) c.deref_mut.ensures.value in
    let is : slice_range zs old.start old.end ≡ slice_range xs old.start old.end = slice_same zs xs old.start old.end old.end front (omega arith) in (
      [],
      c.in-Err.ensures.none,
      is ∙ c.make_room.ensures.waiting ∙ sym (append-nil (buffer_waiting c.args.self.now)),
      omega arith,
      refl,
    )
