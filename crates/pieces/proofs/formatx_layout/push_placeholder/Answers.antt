use Rattle.std.proofs.Common.{rules, sym}
use Rattle.pieces.specs.Inner.Formatx.{IsPlain}
use Rattle.pieces.proofs.FormatxLemmas.{placeholder_moves}
use Rattle.pieces.proofs.formatx_layout.push_placeholder.Goals as goal

pub returns : goal.returns
returns c = λ rest.
    let plain : IsPlain c.args.placeholder.now.spec = c.is_plain.ensures (search (rules, c.if-not-is_plain.false)) in
    placeholder_moves c.args.template.now c.args.names.now c.args.kinds.now c.args.layout.now c.push_value.new.self c.args.placeholder.now rest c.args.next c.in-Some.place c.in-Some-place_after.after c.in-Some-form_at.form plain (sym c.in-Some.ensures) c.in-Some-form_at.ensures.form c.in-Some-place_after.ensures c.in_ok-push_value.ensures
