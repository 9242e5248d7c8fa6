use Rattle.std.proofs.Common.{◌<◌, ◌-◌, length, ap, arith}
use Rattle.std.proofs.lemmas.List.{get_or_default}
use Rattle.scan_fmt.specs.declared.set.Span.{Span}
use Rattle.scan_fmt.specs.Inner.Spans.{reach_of}
use Rattle.scan_fmt.proofs.Spans.{raised_all, raised_kept, raised_more, lifted_set}
use Rattle.scan_fmt.proofs.set.raise.Goals as goal
use Rattle.scan_fmt.proofs.set.raise.Goals.{then-spans-i, else-spans-i}

pub spans-preserved : goal.spans-preserved
spans-preserved c =
    let old = c.args.spans.now in
    let xs = c.spans.spans in
    let i = c.spans.i in
    let nil : Span = record { low = 0; reach = 0 } in
    let some : 0 < i = omega (arith, c.spans.auto.i) in
    let less : i < length xs = omega (arith, c.spans-test.true, c.spans.auto.spans) in
    elim c.if-spans-i.branch [
      | then-spans-i w ↦ raised_more old xs c.if-spans-i.spans i some less (lifted_set xs c.if-spans-i.spans i nil some less w.spans-is w.if-spans-i.true) c.spans.invariant
      | else-spans-i w ↦ rw w.spans-is (raised_kept old xs i some (λ d. omega (arith, w.if-spans-i.false, ap reach_of (get_or_default xs i nil d less), ap reach_of (get_or_default xs (i - 1) nil d (omega arith)))) c.spans.invariant)
    ]

pub returns-clause-rises : goal.returns-clause-rises
returns-clause-rises c = raised_all c.args.spans.now c.spans.spans c.spans.i (omega (arith, c.spans-test.false, c.spans.auto.spans)) c.spans.invariant
