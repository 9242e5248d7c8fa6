use Rattle.std.proofs.Common.{◌≡◌, [], length, take, refl, sym, ◌∙◌, ap, arith, length-take, append-nil}
use Rattle.std.proofs.lemmas.Bool.{false≢true}
use Rattle.whiteread.specs.LineCall.{probe_len}
use Rattle.whiteread.specs.ReaderState.{reader_waiting}
use Rattle.whiteread.proofs.AwaitLemmas.{too_long_rose}
use Rattle.whiteread.proofs.reader.Reader.probe.Goals as goal

pub returns-in-Ok : goal.returns-in-Ok
returns-in-Ok g c =
    let old = c.args.self.now in
    let count = c.in-Ok.field-0 in
    let probe = take count c.read.new.buf in
    let most = c.in-Ok.ensures.count in
    let long : length probe ≡ count = simp length-take (omega arith) in
    let room : length c.read.new.buf ≡ 1 = c.read.auto.buf in
    let one : length probe ≡ 1 = omega (arith, long, most, room, c.in-Ok.field-0-test) in
    record {
      outcome = record {
        got = [];
        probe = probe;
        gave = record { bytes = c.in-Ok.ensures.bytes; count = c.in-Ok.ensures.given ∙ omega (arith, long) };
        taken = omega arith;
        full = c.requires.full;
        probed = one ∙ sym (ap probe_len c.requires.within);
        waits = sym (append-nil (reader_waiting old));
        no_line = c.requires.no_line;
        past = refl;
      };
      step = record {
        counts = too_long_rose _ _ old.not_utf8 old.too_long c.counted-self.result c.in-Ok.ensures.no_fault c.counted-self.ensures;
        stays_past = λ _. refl;
        kept = record { line = refl; passed = refl; row = refl; limit = refl; same_reference = c.in-Ok.ensures.same_reference };
      };
      lazy = λ past. absurd (false≢true (sym c.requires.within ∙ past));
    }
