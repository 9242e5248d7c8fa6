use Rattle.percent_encoding.specs.AsciiSet.{contains}
use Rattle.scan_fmt.specs.Inner.Spans.{is_covered}
use Rattle.scan_fmt.proofs.Tables.{Judged}
use Rattle.scan_fmt.proofs.set.table_of.Given as goal

-- the codes so far were judged
abbrev pub invariant-codes : goal.invariant-codes
invariant-codes l = Judged (contains l.table) (is_covered l.spans) l.code
