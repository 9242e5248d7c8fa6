-- What was there before may be taken back to.
use Rattle.std.proofs.Common.{arith}
use Rattle.std.specs.Prelude.{string_bytes}
use Rattle.std.proofs.lemmas.Str.{IsUtf8-string_bytes}
use Rattle.formatx.specs.Scene.{scene_over}
use Rattle.formatx.specs.Text.{rendered}
use Rattle.formatx.proofs.PrintLemmas.{holds_extends}
use Rattle.formatx.proofs.template.Template.render_into.Goals as goal

pub take_back-requires : goal.take_back-requires
take_back-requires g c =
    let scene = scene_over g.V.FormatValue.meaning c.as_str-source.result.now c.args.args.now c.args.names.now c.args.strict in
    let all = rendered scene 0 c.self.inside.parsed.segments.items in
    (string_bytes c.args.out.now, grind arith, IsUtf8-string_bytes c.args.out.now, holds_extends c.in-Err.error (string_bytes c.args.out.now) (string_bytes c.render.new.output) all.text c.in-Err.ensures.stands)
