use Rattle.std.proofs.Common.{arith, ap, sym, ◌∙◌, ◌++◌, ℕ, List, append_assoc, string_bytes}
use Rattle.std.specs.Prelude.{encode_utf8}
use Rattle.std.proofs.lemmas.Str.{length-encode}
use Rattle.padding.proofs.FillLemmas.{fills-more, room_left}
use Rattle.padding.proofs.push_copies.Goals as goal

pub unwrap-requires : goal.unwrap-requires
unwrap-requires c =
    let room = room_left _ _ _ _ _ c.copies-test.true c.requires.room in
    c.push.ensures.succeeds (omega (arith, room, length-encode c.args.fill, c.copies.invariant.len, c.copies.invariant.capacity))

pub copies-preserved : goal.copies-preserved
copies-preserved c =
    let bytes = rw c.unwrap.ensures at c.push.ensures.bytes in
    let len = rw c.unwrap.ensures at c.push.ensures.len in
    record {
      bytes = bytes ∙ ap (λ (bs : List ℕ). bs ++ encode_utf8 c.args.fill) c.copies.invariant.bytes ∙ append_assoc _ _ (encode_utf8 c.args.fill)
          ∙ ap (λ (bs : List ℕ). string_bytes c.args.out.now ++ bs) (sym (fills-more c.copies.i c.args.fill));
      len = omega (arith, len, length-encode c.args.fill, c.copies.invariant.len);
      capacity = omega (arith, c.copies.invariant.capacity, c.push.ensures.capacity);
    }
