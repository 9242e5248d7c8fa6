use Rattle.std.proofs.Common.{Some, None, ◌≡◌, ◌+◌, ◌-◌, ℕ, List, take, drop, slice_range, take_all, sym, ◌∙◌, ap, subst, arith}
use Rattle.std.proofs.lemmas.Bool.{false≢true}
use Rattle.memchr.specs.Find.{IsFirstByte, is_byte}
use Rattle.whiteread.specs.Lines.{HasNoFeed, line_feed}
use Rattle.whiteread.specs.ReaderState.Buffer.{buffer_waiting}
use Rattle.whiteread.specs.declared.reader.buffer.Buffer.{Buffer}
use Rattle.whiteread.proofs.BufferLemmas.{FoundAt, found_at, found_on, none_found, no_feed_all, whole_found, slice_len, slice_rest}
use Rattle.whiteread.proofs.reader.buffer.Buffer.line_len.Goals as goal

rest : (old : Buffer) (all : List ℕ) → all ≡ old.bytes.items → slice_range all (old.start + old.searched) old.end ≡ drop old.searched (buffer_waiting old)
rest old all is =
    ap (λ (l : List ℕ). slice_range l (old.start + old.searched) old.end) is ∙ sym (slice_rest old.bytes.items old.start old.end old.searched old.searched_within)

found : (old : Buffer) (all : List ℕ) (at : ℕ) → all ≡ old.bytes.items → IsFirstByte (is_byte line_feed) (slice_range all (old.start + old.searched) old.end) (Some at) → FoundAt (buffer_waiting old) (old.searched + at)
found old all at is first =
    found_on (buffer_waiting old) old.searched at old.no_feed (subst (λ (l : List ℕ). FoundAt l at) (rest old all is) (found_at _ at first))

none : (old : Buffer) (all : List ℕ) → all ≡ old.bytes.items → IsFirstByte (is_byte line_feed) (slice_range all (old.start + old.searched) old.end) None → HasNoFeed (buffer_waiting old)
none old all is first = no_feed_all (buffer_waiting old) old.searched old.no_feed (subst HasNoFeed (rest old all is) (none_found _ first))

pub invariant_of-self : goal.invariant_of-self
invariant_of-self c =
    let old = c.args.self.now in
    let at = found c.args.self.now c.deref.result.now c.in-Some.at c.deref.ensures.value c.in-Some.ensures in
    let long = slice_len old.bytes.items old.start old.end old.end_within in
    let inside = at.within in record {
      line_within = old.line_within;
      within = old.within;
      end_within = old.end_within;
      searched_within = omega (arith, inside, long, old.within);
      text_within = old.text_within;
      no_feed = at.none;
      feed = λ _. (omega (arith, inside, long, old.within), at.here);
      is_text = old.is_text;
      line_is_text = old.line_is_text;
    }

pub invariant_of-self-in-None : goal.invariant_of-self-in-None
invariant_of-self-in-None c =
    let old = c.args.self.now in
    let long = slice_len old.bytes.items old.start old.end old.end_within in
    let all : take (old.end - old.start) (buffer_waiting old) ≡ buffer_waiting old = take_all (old.end - old.start) (buffer_waiting old) (omega (arith, long)) in record {
      line_within = old.line_within;
      within = old.within;
      end_within = old.end_within;
      searched_within = omega (arith, old.within);
      text_within = old.text_within;
      no_feed = subst HasNoFeed (sym all) (none c.args.self.now c.deref.result.now c.deref.ensures.value c.in-None.ensures);
      feed = λ is. absurd (false≢true (sym c.if-self.false ∙ is));
      is_text = old.is_text;
      line_is_text = old.line_is_text;
    }

pub returns-then-self-clause-line : goal.returns-then-self-clause-line
returns-then-self-clause-line c =
    let old = c.args.self.now in
    let at = old.feed c.if-self.true in
    let long = slice_len old.bytes.items old.start old.end old.end_within in
    whole_found (buffer_waiting old) old.searched (record { within = omega (arith, at.0, long); none = old.no_feed; here = at.1 })

pub returns-in-Some-clause-line : goal.returns-in-Some-clause-line
returns-in-Some-clause-line c = whole_found (buffer_waiting c.args.self.now) _ (found c.args.self.now c.deref.result.now c.in-Some.at c.deref.ensures.value c.in-Some.ensures)

pub returns-in-None-clause-line : goal.returns-in-None-clause-line
returns-in-None-clause-line c = none c.args.self.now c.deref.result.now c.deref.ensures.value c.in-None.ensures
