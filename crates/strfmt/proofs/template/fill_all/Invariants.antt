use Rattle.std.proofs.Common.{drop, string_bytes}
use Rattle.strfmt.proofs.SegmentLemmas.{Filled}
use Rattle.strfmt.proofs.template.fill_all.Given as goal

abbrev pub invariant-segments : goal.invariant-segments
invariant-segments g l = record {
  callable : goal.F-IsAlwaysCallable g l.f;
  filled : Filled g.F.FnMut l.fn.f l.fn.segments l.fn.fault (string_bytes l.fn.out) l.f (drop l.segment-index l.segments) (string_bytes l.out);
}
