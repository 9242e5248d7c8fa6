use Rattle.std.proofs.Common.{◌≡◌, ◌-◌, ℕ, true, take, slice_range, sym, ◌∙◌, ap, arith, rules, Vec}
use Rattle.std.specs.Global.{Global}
use Rattle.std.specs.Str.{is_utf8}
use Rattle.std.proofs.lemmas.Str.{is_utf8-from_IsUtf8}
use Rattle.whiteread.specs.ReaderState.Buffer.{buffer_waiting}
use Rattle.whiteread.proofs.BufferLemmas.{slice_len, slice_front}
use Rattle.whiteread.proofs.reader.buffer.Buffer.take_line.Goals as goal

pub invariant_of-self : goal.invariant_of-self
invariant_of-self c =
    let old = c.args.self.now in
    let new = c.pass-2.new.self in
    let len = c.args.len in
    let inside = c.requires.within in
    let long = slice_len old.bytes.items old.start old.end old.end_within in
    let place = c.pass-2.ensures.place in
    let yes : c.begins_with_text.result ≡ true = search rules in
    let start : new.start - len ≡ old.start = omega (arith, place) in
    let line : slice_range new.bytes.items (new.start - len) new.start ≡ take len (buffer_waiting old) =
    ap (λ (v : Vec ℕ Global). slice_range v.items (new.start - len) new.start) c.pass-2.ensures.bytes
    ∙ ap (λ (n : ℕ). slice_range old.bytes.items n new.start) start ∙ ap (λ (n : ℕ). slice_range old.bytes.items old.start n) place
    ∙ sym (slice_front old.bytes.items old.start old.end len (omega (arith, inside, long, old.within))) in
    record {
      line_within = omega (arith, place);
      within = new.within;
      end_within = new.end_within;
      searched_within = new.searched_within;
      text_within = new.text_within;
      no_feed = new.no_feed;
      feed = new.feed;
      is_text = new.is_text;
      line_is_text = ap is_utf8 line ∙ is_utf8-from_IsUtf8 (take len (buffer_waiting old)) (c.begins_with_text.ensures.0 yes);
    }
