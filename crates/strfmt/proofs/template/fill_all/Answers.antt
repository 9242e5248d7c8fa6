use Rattle.std.proofs.Common.{◌≡◌, arith, drop, length, string_bytes}
use Rattle.std.proofs.lemmas.List.{length-drop}
use Rattle.strfmt.proofs.SegmentLemmas.{item_at, filled_more, filled_error, filled_end, filled_fault}
use Rattle.strfmt.proofs.template.fill_all.Goals as goal

pub returns-in-Err : goal.returns-in-Err
returns-in-Err g c =
    filled_error g.F.FnMut c.args.f.now c.args.segments.now c.args.fault (string_bytes c.args.out.now) _ _ _ _ _ _ _ _ c.segments.invariant.filled
    (item_at c.args.segments.now c.segments.segment-index c.segment-item.result c.segments-test.true c.segment-item.is) (rw c.in-Err.is at c.fill_one.ensures.fills)

pub segments-preserved : goal.segments-preserved
segments-preserved g c = record {
  callable = c.fill_one.ensures.callable;
  filled =
      filled_more g.F.FnMut c.args.f.now c.args.segments.now c.args.fault (string_bytes c.args.out.now) _ _ _ _ _ _ _ c.segments.invariant.filled
      (item_at c.args.segments.now c.segments.segment-index c.segment-item.result c.segments-test.true c.segment-item.is) (rw c.in-Ok.is at c.fill_one.ensures.fills);
}

pub returns-in-None : goal.returns-in-None
returns-in-None g c =
    let none : length (drop c.segments.segment-index c.args.segments.now) ≡ 0 = omega (arith, length-drop c.segments.segment-index c.args.segments.now, c.segments-test.false) in
    filled_end g.F.FnMut c.args.f.now c.args.segments.now c.args.fault (string_bytes c.args.out.now) _ _ _ c.segments.invariant.filled none c.in-None.is

pub returns-in-Some : goal.returns-in-Some
returns-in-Some g c =
    let none : length (drop c.segments.segment-index c.args.segments.now) ≡ 0 = omega (arith, length-drop c.segments.segment-index c.args.segments.now, c.segments-test.false) in
    filled_fault g.F.FnMut c.args.f.now c.args.segments.now c.args.fault (string_bytes c.args.out.now) _ _ _ _ _ c.segments.invariant.filled none c.in-Some.is c.told.ensures
