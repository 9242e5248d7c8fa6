use Rattle.std.proofs.Common.{◌∙◌, List, ℕ, string_bytes, Ok, Err}
use Rattle.std.proofs.lemmas.Str.{IsUtf8-string_bytes}
use Rattle.std.proofs.lemmas.Result.{err_from_is_err_and}
use Rattle.rewriting.proofs.RowLemmas.{rewritten, unrendered, unread_if, on_ok, ended, printed_of}
use Rattle.rewriting.proofs.rows.Rows.rewrite_by_plan.Goals as goal

pub end_line-requires : goal.end_line-requires
end_line-requires c = record {
  front = string_bytes c.args.out.now;
  more = c.in-Ok.ensures.ok.0;
  is = c.in-Ok.ensures.ok.2;
  utf8 = IsUtf8-string_bytes c.args.out.now;
  long = c.len-before.ensures ∙ c.args.out.now.bytes.ok.0;
}

pub returns-in-Ok-clause-kept : goal.returns-in-Ok-clause-kept
returns-in-Ok-clause-kept c version =
    let text : List ℕ = c.in-Ok.ensures.ok.0 in
    on_ok c.end_line.result (λ e. (
      text,
      rewritten c.prints_columns.ensures version c.args.self.now.source c.args.self.now.printer c.args.row.now text c.in_ok-values.values.items c.requires c.in_ok-values.ensures.read
          (printed_of c.args.self.now.printer c.deref.result.now c.in_ok-values.values.items (Ok text) c.deref.ensures.value c.in-Ok.ensures.ok.1),
      ended (string_bytes c.args.out.now) text (string_bytes c.text_into.new.out) (string_bytes c.end_line.new.out) c.in-Ok.ensures.ok.2 e,
    )) c.end_line.ensures.ok

pub returns-in-Err-Fault-clause-refused : goal.returns-in-Err-Fault-clause-refused
returns-in-Err-Fault-clause-refused c version =
    unrendered c.prints_columns.ensures version c.args.self.now.source c.args.self.now.printer c.args.number c.args.row.now c.in-Err-Fault.fault c.in_ok-values.values.items c.requires c.in_ok-values.ensures.read
    (printed_of c.args.self.now.printer c.deref.result.now c.in_ok-values.values.items (Err c.in-Err-Fault.fault) c.deref.ensures.value (rw c.in-Err-Fault.field-0-is at c.in-Err-Fault.ensures.refused))

pub returns-in_err-values-clause-refused : goal.returns-in_err-values-clause-refused
returns-in_err-values-clause-refused c version =
    let p = err_from_is_err_and c.from_residual.result c.from_residual.ensures.1 in
    rw (p.1, p.2) (unread_if c.prints_columns.ensures version c.args.self.now.source c.args.self.now.printer c.args.number c.args.row.now c.in_err-values.field-0.0 c.requires c.in_err-values.ensures.refused)
