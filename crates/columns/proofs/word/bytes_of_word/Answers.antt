use Rattle.std.proofs.Common.{◌≡◌, get_or, subst, sym, arith}
use Rattle.columns.specs.Inner.Shapes.{IsWordByte}
use Rattle.columns.proofs.Words.{bytes_more}
use Rattle.columns.proofs.word.bytes_of_word.Goals as goal

pub bytes-preserved : goal.bytes-preserved
bytes-preserved c =
    let there : c.bytes.byte-index ≡ c.bytes.len = sym c.bytes.invariant.counted in
    record {
      counted = omega (arith, c.bytes.invariant.counted);
      bytes = bytes_more c.args.text.now c.bytes.len c.args.stop (omega (arith, there, c.bytes-test.true)) c.bytes.invariant.bytes
          (subst (λ k. IsWordByte c.args.stop (get_or c.args.text.now k 0)) there (c.ends_word.ensures c.if-ends_word.false));
    }
