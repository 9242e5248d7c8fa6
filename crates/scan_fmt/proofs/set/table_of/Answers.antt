use Rattle.std.proofs.Common.{◌∙◌, ap, sym, arith, rules}
use Rattle.percent_encoding.specs.AsciiSet.{contains}
use Rattle.percent_encoding.specs.declared.ascii_set.AsciiSet.{AsciiSet}
use Rattle.scan_fmt.specs.Inner.Spans.{is_covered}
use Rattle.scan_fmt.proofs.Tables.{judged_none, judged_in, judged_out, judged_all}
use Rattle.scan_fmt.proofs.set.table_of.Goals as goal
use Rattle.scan_fmt.proofs.set.table_of.Goals.{then-is_covered, else-is_covered}

pub codes-init : goal.codes-init
codes-init c =
    let none : AsciiSet = record { mask = 0 } in
    judged_none (contains none) (is_covered c.args.spans.now) (λ b. search rules)

pub codes-preserved : goal.codes-preserved
codes-preserved c =
    let code = c.codes.code in
    let has = is_covered c.args.spans.now in
    elim c.if-is_covered.branch [
      | then-is_covered w ↦ rw w.table-is (judged_in (contains c.codes.table) (contains w.add-table.result) has code (ap has (sym c.from.ensures) ∙ sym w.if-is_covered.ensures) w.add-table.ensures.added w.add-table.ensures.others c.codes.invariant)
      | else-is_covered w ↦ rw w.table-is (judged_out (contains c.codes.table) has code (ap has (sym c.from.ensures) ∙ sym w.if-is_covered.ensures) c.codes.invariant)
    ]

pub returns : goal.returns
returns c = λ b less. judged_all (contains c.codes.table) (is_covered c.args.spans.now) c.codes.code c.codes.invariant b (omega arith)
