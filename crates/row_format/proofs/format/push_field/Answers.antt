use Rattle.std.proofs.Common.{◌≤◌}
use Rattle.std.proofs.lemmas.Str.{IsUtf8-string_bytes}
use Rattle.row_format.specs.Columns.{width_of}
use Rattle.row_format.proofs.format.push_field.Goals as goal

pub returns-clause-text : goal.returns-clause-text
returns-clause-text c =
    let narrow : width_of c.in-Format.field ≤ 2147483647 = rw (← c.width-width.ensures.width) c.width-width.ensures.narrow in
    rw c.in-Format.is (IsUtf8-string_bytes c.args.after, narrow, tt)
