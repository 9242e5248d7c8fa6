use Rattle.std.proofs.Common.{◌≡◌, ◌∙◌, ap, sym, ℕ, false, Some}
use Rattle.row_format.specs.Columns.{width_of}
use Rattle.translation.specs.declared.row.Row.{Row}
use Rattle.translation.specs.Table.{has_space, least_length, row_of}
use Rattle.translation.specs.Inner.Plans.{decimal_plan}
use Rattle.translation.proofs.Written.{decimal_found}
use Rattle.translation.proofs.table.decimal_field.Goals as goal

pub returns : goal.returns
returns c = λ i.
    let f = c.args.field.now in
    let space : has_space f c.args.kind ≡ false = sym c.has_space.ensures ∙ c.if-has_space.false in
    let row : row_of (least_length f c.args.kind) f ≡ c.of-row.result = ap (λ (n : ℕ). row_of n f) (sym c.least_length.ensures) ∙ sym c.of-row.ensures in
    let plan : decimal_plan c.args.target (row_of (least_length f c.args.kind) f) c.plus.result (width_of f) ≡ Some c.in_ok-options.options =
    ap (λ (r : Row). decimal_plan c.args.target r c.plus.result (width_of f)) row
    ∙ ap (λ (w : ℕ). decimal_plan c.args.target c.of-row.result c.plus.result w) (sym c.width.ensures) ∙ sym c.decimal.ensures ∙ c.in_ok-options.was in
    decimal_found c.args.target f c.args.kind c.plus.result i c.in_ok-options.options space c.plus.ensures plan
