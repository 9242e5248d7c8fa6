use Rattle.std.proofs.Common.{◌≤◌, refl, sym, subst, ap, ◌∙◌}
use Rattle.std.specs.Str.{IsUtf8}
use Rattle.row_format.specs.Columns.{width_of}
use Rattle.separation.specs.Inner.Table.{field_opening, is_taken, is_opening_taken}
use Rattle.separation.specs.Inner.Touching.{IsFollowed}
use Rattle.separation.proofs.Behind.{decides_by, never, next_exactly, prints_nothing}
use Rattle.separation.proofs.Clear.{none_behind, literal_taken, literal_clear}
use Rattle.separation.proofs.touching.is_followed.Goals as goal

pub returns-in-Some : goal.returns-in-Some
returns-in-Some c =
    let column = c.args.column.now in
    let letter = c.in-Some.character in
    let text = c.in-Some.ensures.some in
    let utf8 = subst IsUtf8 c.after.ensures c.after.utf8 in
    let spelled = sym c.after.ensures ∙ text.1 in
    decides_by (IsFollowed column c.args.later.now c.args.kinds.now) c.is_taken.result (is_taken column.field.conversion_type letter) (c.is_taken.ensures ∙ ap (λ f. is_taken f.conversion_type letter) c.field.ensures)
    (literal_taken column c.args.later.now c.args.kinds.now letter text.0 utf8 spelled c.requires.paired)
    (literal_clear column c.args.later.now c.args.kinds.now letter text.0 utf8 spelled)

pub returns-in_default-split : goal.returns-in_default-split
returns-in_default-split c =
    let column = c.args.column.now in
    let none = sym c.after.ensures ∙ c.in_default.ensures.none refl in
    never (IsFollowed column c.args.later.now c.args.kinds.now)
    (none_behind column c.args.later.now c.args.kinds.now none (prints_nothing c.args.later.now c.args.kinds.now (c.in_default-split.ensures.none refl)))

pub returns : goal.returns
returns c =
    let column = c.args.column.now in
    let next = c.in-Some-split.next in
    let none = sym c.after.ensures ∙ c.in_default.ensures.none refl in
    next_exactly column next.column.now c.args.later.now next.columns.now next.kind c.args.kinds.now next.kinds.now c.is_opening_taken.result c.in-Some-split.ensures.columns c.in-Some-split.ensures.kinds none c.requires.takes
    (subst (λ f. width_of f ≤ 2147483647) c.field-2.ensures c.field_opening.ensures.narrow)
    (c.is_opening_taken.ensures ∙ ap (is_opening_taken c.field.result.now.conversion_type) c.field_opening.ensures.opening
    ∙ ap (λ f. is_opening_taken f.conversion_type (field_opening c.field-2.result.now next.kind)) c.field.ensures
    ∙ ap (λ f. is_opening_taken column.field.conversion_type (field_opening f next.kind)) c.field-2.ensures)
    c.requires.paired c.requires.whole
