use Rattle.std.proofs.Common.{◌≤◌, not, sym, subst, ◌∙◌, ap, ⊎_elim}
use Rattle.std.proofs.lemmas.Bool.{cases_Bool}
use Rattle.row_format.specs.Columns.{width_of}
use Rattle.separation.specs.Inner.Table.{may_fill}
use Rattle.separation.proofs.Ends.{fill_touches, front_touches, room_apart}
use Rattle.separation.proofs.Texts.{is_false}
use Rattle.separation.proofs.touching.may_touch.Goals as goal

pub returns-then-may_fill : goal.returns-then-may_fill
returns-then-may_fill c =
    let same = c.field-field.ensures in
    let fills = ap (λ f. may_fill f c.args.kind) (sym same) ∙ sym c.may_fill.ensures.fill ∙ c.if-may_fill.true in
    let narrow = subst (λ f. width_of f ≤ 2147483647) same c.may_fill.ensures.narrow in
    (λ _. fill_touches c.args.column.now c.args.kind c.requires.paired c.requires.whole narrow fills, λ _. c.if-may_fill.true)

pub returns-else-may_fill : goal.returns-else-may_fill
returns-else-may_fill c =
    let same = c.field-field.ensures in
    let fills = ap (λ f. may_fill f c.args.kind) (sym same) ∙ sym c.may_fill.ensures.fill ∙ c.if-may_fill.false in
    let narrow = subst (λ f. width_of f ≤ 2147483647) same c.may_fill.ensures.narrow in (
      λ front. front_touches c.args.column.now c.args.kind c.requires.paired c.requires.whole narrow (ap (λ f. f.left_adj) (sym same) ∙ is_false c.field-field.result.now.left_adj front),
      λ touches. ⊎_elim
          (λ left. absurd (room_apart c.args.column.now c.args.kind c.requires.paired fills (ap (λ f. f.left_adj) (sym same) ∙ left) touches))
          (λ front. ap not front)
          (cases_Bool c.field-field.result.now.left_adj),
    )
