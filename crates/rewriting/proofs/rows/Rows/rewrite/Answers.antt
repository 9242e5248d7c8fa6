use Rattle.std.proofs.Common.{string_bytes}
use Rattle.rewriting.proofs.RowLemmas.{if_rewritten}
use Rattle.rewriting.proofs.rows.Rows.rewrite.Goals as goal

pub returns-in-Ok-true-clause-kept : goal.returns-in-Ok-true-clause-kept
returns-in-Ok-true-clause-kept c version =
    if_rewritten c.prints_columns.ensures c.has_one_list.ensures version c.args.self.now.source c.args.self.now.printer c.args.self.now.fast c.args.row.now (string_bytes c.args.out.now) (string_bytes c.rewrite_fast.new.out)
    c.requires.0 c.requires.1 (c.in-Ok-true.ensures.written c.in-Ok-true.field-0-test)
