use Rattle.std.proofs.Common.{◌≡◌, ◌++◌, List, ℕ, sym, subst, string_bytes, OnOk}
use Rattle.line_job.specs.Refusal.{IfRefused}
use Rattle.rewriting.specs.declared.rewrite.State.{State}
use Rattle.rewriting.specs.Rules.{Keeps, Refuses}
use Rattle.rewriting.specs.Inner.State.{layout_of, stage_of}
use Rattle.rewriting.proofs.RowLemmas.{keeps_row}
use Rattle.rewriting.proofs.rewrite.RewriteLineJob.line.Goals as goal

pub returns-in-Rows-clause-kept : goal.returns-in-Rows-clause-kept
returns-in-Rows-clause-kept c =
    subst (λ (s : State). OnOk c.rewrite.result ((text : List ℕ) × Keeps (stage_of s) c.args.number c.args.line.now text (stage_of s) × (string_bytes c.rewrite.new.out ≡ string_bytes c.args.out.now ++ text))) (sym c.in-Rows.is)
    (keeps_row c.rewrite.result (layout_of c.in-Rows.field-0 c.in-Rows.rows.source c.in-Rows.rows.printer) c.args.number c.args.line.now (string_bytes c.args.out.now) (string_bytes c.rewrite.new.out) (c.rewrite.ensures.kept _))

pub returns-in-Rows-clause-refused : goal.returns-in-Rows-clause-refused
returns-in-Rows-clause-refused c =
    subst (λ (s : State). IfRefused c.rewrite.result (Refuses (stage_of s) c.args.number c.args.line.now)) (sym c.in-Rows.is) (c.rewrite.ensures.refused _)
