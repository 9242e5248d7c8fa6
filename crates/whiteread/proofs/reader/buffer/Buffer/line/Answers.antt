use Rattle.std.proofs.Common.{◌-◌, ℕ, List, slice_range, subst, sym}
use Rattle.std.specs.Str.{IsUtf8}
use Rattle.std.proofs.lemmas.Str.{IsUtf8-from_is_utf8}
use Rattle.whiteread.proofs.reader.buffer.Buffer.line.Goals as goal

pub from_utf8_unchecked-requires : goal.from_utf8_unchecked-requires
from_utf8_unchecked-requires c =
    let old = c.args.self.now in
    subst (λ (l : List ℕ). IsUtf8 (slice_range l (old.start - old.line) old.start)) (sym c.deref.ensures.value) (IsUtf8-from_is_utf8 (slice_range old.bytes.items (old.start - old.line) old.start) old.line_is_text)
