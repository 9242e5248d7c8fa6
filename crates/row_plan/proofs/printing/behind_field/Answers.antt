use Rattle.std.proofs.Common.{◌∙◌}
use Rattle.row_format.specs.Columns.{field_text}
use Rattle.row_plan.specs.Inner.Reading.{kind_in, datum_in}
use Rattle.row_plan.proofs.Prefixes.{continues}
use Rattle.row_plan.proofs.printing.behind_field.Goals as goal

pub returns : goal.returns
returns c = continues c.args.line.now (field_text c.args.field.now.field (kind_in c.args.value.now) (datum_in c.args.value.now)) c.args.field.now.after c.as_bytes.result.now c.behind.result (c.as_bytes.ensures.value ∙ (rw c.in_ok-print_field.was at c.print_field.ensures)) c.behind.ensures
