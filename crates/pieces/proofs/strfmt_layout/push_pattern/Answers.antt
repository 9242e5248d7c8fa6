use Rattle.std.proofs.Common.{◌≤◌, ◌^◌, length, arith}
use Rattle.pieces.proofs.StrfmtLemmas.{pattern_moves}
use Rattle.pieces.proofs.strfmt_layout.push_pattern.Goals as goal

pub returns-clause-moves : goal.returns-clause-moves
returns-clause-moves c =
    let short : length c.args.kinds.now ≤ 2 ^ 64 = omega arith in
    pattern_moves c.args.names.now c.args.kinds.now c.args.layout.now c.push_value.new.self c.args.text.now c.in-Some.rest.now c.in-Some.place c.in-Some-form_at.form short c.in-Some.ensures c.in-Some-form_at.ensures.form c.in_ok-push_value.ensures
