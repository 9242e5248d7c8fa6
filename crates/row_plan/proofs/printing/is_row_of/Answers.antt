use Rattle.std.proofs.Common.{◌≡◌, ◌↔◌, ◌++◌, ℕ, List, map, IfOk, IsTrue, ap, sym, subst, ◌∙◌}
use Rattle.row_format.specs.Columns.{Column, columns_text}
use Rattle.row_plan.specs.Inner.Reading.{kind_in, datum_in}
use Rattle.row_plan.proofs.Prefixes.{behind_text}
use Rattle.row_plan.proofs.printing.is_row_of.Goals as goal

pub returns : goal.returns
returns c =
    let whole : c.args.line.now ≡ c.args.format.now.head ++ c.in-Some.rest.now = sym c.as_bytes.ensures.value ∙ c.in-Some.ensures ∙ ap (λ (h : List ℕ). h ++ c.in-Some.rest.now) (c.as_bytes-2.ensures.value ∙ c.head.ensures) in
    behind_text c.args.line.now c.args.format.now.head c.in-Some.rest.now (columns_text c.args.format.now.columns (map kind_in c.args.values.now) (map datum_in c.args.values.now)) c.is_text_of.result whole
    (subst (λ (cs : List Column). IfOk c.is_text_of.result (λ yes. IsTrue yes ↔ (c.in-Some.rest.now ≡ columns_text cs (map kind_in c.args.values.now) (map datum_in c.args.values.now)))) c.fields.ensures c.is_text_of.ensures)
