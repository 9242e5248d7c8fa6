use Rattle.std.proofs.Common.{refl}
use lib.Lanes.{chunk}
use Rattle.std.proofs.lemmas.Simd.{length-chunk, zip2_splat, zip2_of_maps}
use Rattle.columns.proofs.Words.{sure_all, sure_some}
use Rattle.columns.proofs.word.sure_run.Goals as goal

pub returns-then-ends-eq0 : goal.returns-then-ends-eq0
returns-then-ends-eq0 c =
    let v = chunk 0 16 c.args.text.now in
    let long = length-chunk 0 16 c.args.text.now c.requires in
    let all = sure_all c.args.text.now c.args.stop c.requires (zip2_of_maps _ _ _ v (zip2_splat _ v 16 32 long) (zip2_splat _ v 16 c.args.stop long)) c.if-ends-eq0.true in
    record { bytes = all.0; few = all.1 }

pub returns-else-ends-eq0 : goal.returns-else-ends-eq0
returns-else-ends-eq0 c =
    let v = chunk 0 16 c.args.text.now in
    let long = length-chunk 0 16 c.args.text.now c.requires in
    let some = sure_some c.args.text.now c.args.stop _ c.requires (zip2_of_maps _ _ _ v (zip2_splat _ v 16 32 long) (zip2_splat _ v 16 c.args.stop long)) c.if-ends-eq0.false refl in
    record { bytes = some.0; few = some.1 }
