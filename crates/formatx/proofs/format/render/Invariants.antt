-- The output holds the text of the segments so far.
use Rattle.std.proofs.Common.{◌≤◌, ◌*◌, drop}
use Rattle.std.specs.Prelude.{string_bytes}
use Rattle.formatx.specs.Scene.{scene_over}
use Rattle.formatx.specs.Text.{rendered}
use Rattle.formatx.proofs.PrintLemmas.{IsPrinted}
use Rattle.formatx.proofs.format.render.Given as goal

abbrev pub invariant-segments : goal.invariant-segments
invariant-segments g l =
    let scene = scene_over g.V.FormatValue.meaning l.source l.args l.names l.strict in
    record {
      printed : IsPrinted (string_bytes l.fn.output) (string_bytes l.output) (rendered scene 0 l.parsed.segments.items) (rendered scene l.next (drop l.segment-index l.parsed.segments.items));
      few : l.next ≤ 2 * l.segment-index;
    }
