use Rattle.std.proofs.Common.{sym, subst, IsUtf8}
use Rattle.std.proofs.lemmas.Str.{IsUtf8-string_bytes}
use Rattle.columns.proofs.Rows.{end_behind, whole_row}
use Rattle.columns.proofs.row.Columns.read.Goals as goal

pub read_steps-requires-clause-end : goal.read_steps-requires-clause-end
read_steps-requires-clause-end c =
    end_behind c.as_bytes-row.result.now c.as_bytes-row.result.now c.as_bytes.result.now c.in-Some.text.now (whole_row c.as_bytes-row.result.now c.as_bytes-row.ensures.utf8) c.in-Some.ensures (subst IsUtf8 (sym c.as_bytes.ensures.value) (IsUtf8-string_bytes c.self.inside.head))
