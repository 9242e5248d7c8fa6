use Rattle.std.proofs.Common.{◌≡◌, ◌+◌, ℕ, List, take, slice_range, sym, ◌∙◌, ap, subst, arith}
use Rattle.std.specs.Str.{IsUtf8}
use Rattle.std.proofs.lemmas.Bool.{le-leb}
use Rattle.whiteread.specs.ReaderState.Buffer.{buffer_waiting}
use Rattle.whiteread.proofs.BufferLemmas.{splits_text, slice_len, slice_front}
use Rattle.whiteread.proofs.reader.buffer.Buffer.begins_with_text.Goals as goal

pub returns-then-len-self : goal.returns-then-len-self
returns-then-len-self c =
    let old = c.args.self.now in
    let long = slice_len old.bytes.items old.start old.end old.end_within in
    let split = splits_text (buffer_waiting old) c.args.len old.text c.requires.within (omega (arith, long, old.text_within)) old.is_text c.if-len-self.true c.requires.first in
    (λ _. split.line, λ _. le-leb c.args.len old.text c.if-len-self.true)

pub returns-else-len-self : goal.returns-else-len-self
returns-else-len-self c =
    let old = c.args.self.now in
    let long = slice_len old.bytes.items old.start old.end old.end_within in
    let same : slice_range c.deref.result.now old.start (old.start + c.args.len) ≡ take c.args.len (buffer_waiting old) =
    ap (λ (l : List ℕ). slice_range l old.start (old.start + c.args.len)) c.deref.ensures.value ∙ sym (slice_front old.bytes.items old.start old.end c.args.len (let r = c.requires.within in omega (arith, r, long, old.within))) in
    (λ is. subst IsUtf8 same (c.is_text.ensures.0 is), λ utf8. c.is_text.ensures.1 (subst IsUtf8 (sym same) utf8))
