use Rattle.std.proofs.Common.{◌≡◌, ◌++◌, [], ◌∷◌, take, drop, length, ◌-◌, rules, List, sym, ap, subst, ◌∙◌}
use Rattle.std.proofs.lemmas.List.{map_push, take_more}
use Rattle.values.specs.declared.kind.Kind.{Kind}
use Rattle.row_format.specs.Columns.{Column}
use Rattle.columns.specs.declared.step.Step.{Step}
use Rattle.columns.specs.Inner.Steps.{column_of, columns_of, kinds_of, AreServed}
use Rattle.columns.proofs.Rows.{kinds_more, served_push}
use Rattle.columns.proofs.row.steps_of.Goals as goal

pub fields-preserved : goal.fields-preserved
fields-preserved c =
    let pushed : c.push.new.self.items ≡ c.fields.steps.items ++ c.in-Some.step ∷ [] = search rules in
    let column = rw c.in-Some.is at c.in_ok-step.ensures.column in
    let kind = rw c.in-Some.is at c.in_ok-step.ensures.kind in
    let served = rw c.in-Some.is at c.in_ok-step.ensures.served in
    record {
      columns = ap columns_of pushed ∙ map_push column_of c.fields.steps.items c.in-Some.step
          ∙ ap (λ (cs : List Column). cs ++ column_of c.in-Some.step ∷ []) c.fields.invariant.columns
          ∙ ap (λ (column : Column). take c.fields.field-index c.args.fields.now ++ column ∷ []) (column ∙ c.field-item.is)
          ∙ sym (take_more c.args.fields.now c.fields.field-index c.field-item.result c.fields-test.true);
      kinds = ap (λ (ks : List Kind). ks ++ take (length c.fields.left.now - 1) (drop 1 c.fields.left.now)) (ap kinds_of pushed ∙ map_push (λ (s : Step). s.kind) c.fields.steps.items c.in-Some.step)
          ∙ kinds_more (kinds_of c.fields.steps.items) c.fields.left.now c.args.kinds.now c.in-Some.step.kind _ c.fields.invariant.kinds c.in-len1-up.len_at_least kind;
      served = subst AreServed (sym pushed) (served_push c.fields.steps.items c.in-Some.step c.fields.invariant.served served);
    }
