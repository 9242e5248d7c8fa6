use Rattle.std.proofs.Common.{◌≡◌, map}
use Rattle.std.specs.Str.{chars}
use Rattle.std.proofs.lemmas.Result.{err_from_is_err_and}
use Rattle.scan_fmt.specs.Slices.{slices_left}
use Rattle.row_plan.specs.Plan.{Planned}
use Rattle.row_plan.proofs.Lines.{scanned, too_short, IsScanned, AreValues, no_list, answers_row, answers_none}
use Rattle.row_plan.proofs.rows.RowPlan.read_row_by.Goals as goal

pub returns-then-is_too_short-clause-refused : goal.returns-then-is_too_short-clause-refused
returns-then-is_too_short-clause-refused c =
    let plan : Planned = record { format = c.self.inside.format; kinds = c.self.inside.kinds.items } in
    let same : plan ≡ c.args.self.now = c.self.view_is in
    rw (← same) (too_short plan c.args.line.now c.self.invariant.1 (rw c.fields-fields.ensures at (c.is_too_short.ensures (c.if-is_too_short.true))))

pub returns-in_err-values-clause-refused : goal.returns-in_err-values-clause-refused
returns-in_err-values-clause-refused c =
    let s : IsScanned c.args.self.now c.args.line.now c.fields-fields.result.now c.deref.result.now (map chars (slices_left c.in_ok-tokens.tokens)) = record {
      text = rw (← c.self.view_is) c.self.invariant.0;
      can = rw (← c.self.view_is) c.self.invariant.1;
      columns_are = rw (← c.self.view_is) c.fields-fields.ensures;
      kinds_are = rw (← c.self.view_is) c.deref.ensures.value;
      scan = rw (← c.requires.format) (scanned c.args.line.now c.args.format.now c.in_ok-tokens.tokens c.in_ok-tokens.ensures.input c.in_ok-tokens.ensures.pieces c.in_ok-tokens.ensures.place);
    } in
    let why = c.in_err-values.field-0.0 in
    let none = rw c.in_err-values.was at c.read_tokens.ensures.refused in
    let refused = no_list c.args.self.now c.args.line.now c.fields-fields.result.now c.deref.result.now (map chars (slices_left c.in_ok-tokens.tokens)) why s c.reads_back.ensures none in
    let p = err_from_is_err_and c.from_residual-in_err-values.result c.from_residual-in_err-values.ensures.1 in
    rw (p.1, p.2) refused

pub returns-clause-ok : goal.returns-clause-ok
returns-clause-ok c =
    let s : IsScanned c.args.self.now c.args.line.now c.fields-fields.result.now c.deref.result.now (map chars (slices_left c.in_ok-tokens.tokens)) = record {
      text = rw (← c.self.view_is) c.self.invariant.0;
      can = rw (← c.self.view_is) c.self.invariant.1;
      columns_are = rw (← c.self.view_is) c.fields-fields.ensures;
      kinds_are = rw (← c.self.view_is) c.deref.ensures.value;
      scan = rw (← c.requires.format) (scanned c.args.line.now c.args.format.now c.in_ok-tokens.tokens c.in_ok-tokens.ensures.input c.in_ok-tokens.ensures.pieces c.in_ok-tokens.ensures.place);
    } in
    let p : AreValues c.fields-fields.result.now c.deref.result.now (map chars (slices_left c.in_ok-tokens.tokens)) c.in_ok-values.values.items = record {
      kinds_are = rw c.in_ok-values.was at c.read_tokens.ensures.kinds;
      each = rw c.in_ok-values.was at c.read_tokens.ensures.values;
    } in
    answers_row (λ owned. owned.items) c.own_values.result c.args.self.now c.args.line.now c.fields-fields.result.now c.deref.result.now (map chars (slices_left c.in_ok-tokens.tokens)) c.in_ok-values.values.items s p c.has_one_list.ensures c.own_values.ensures.owned (rw (← c.self.view_is) c.own_values.ensures.row)

pub returns-clause-refused : goal.returns-clause-refused
returns-clause-refused c =
    let s : IsScanned c.args.self.now c.args.line.now c.fields-fields.result.now c.deref.result.now (map chars (slices_left c.in_ok-tokens.tokens)) = record {
      text = rw (← c.self.view_is) c.self.invariant.0;
      can = rw (← c.self.view_is) c.self.invariant.1;
      columns_are = rw (← c.self.view_is) c.fields-fields.ensures;
      kinds_are = rw (← c.self.view_is) c.deref.ensures.value;
      scan = rw (← c.requires.format) (scanned c.args.line.now c.args.format.now c.in_ok-tokens.tokens c.in_ok-tokens.ensures.input c.in_ok-tokens.ensures.pieces c.in_ok-tokens.ensures.place);
    } in
    let p : AreValues c.fields-fields.result.now c.deref.result.now (map chars (slices_left c.in_ok-tokens.tokens)) c.in_ok-values.values.items = record {
      kinds_are = rw c.in_ok-values.was at c.read_tokens.ensures.kinds;
      each = rw c.in_ok-values.was at c.read_tokens.ensures.values;
    } in
    answers_none c.own_values.result c.args.self.now c.args.line.now c.fields-fields.result.now c.deref.result.now (map chars (slices_left c.in_ok-tokens.tokens)) c.in_ok-values.values.items s p c.reads_back.ensures c.reads_to_one_list.ensures (rw (← c.self.view_is) c.own_values.ensures.refused)
