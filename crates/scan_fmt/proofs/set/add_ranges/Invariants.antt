use denote.Text.{Utf8}
use denote.Shadow.{shadow}
use Rattle.std.proofs.Common.{length}
use Rattle.std.specs.Str.{chars}
use Rattle.scan_fmt.specs.Inner.Spans.{is_covered}
use Rattle.scan_fmt.proofs.Tables.{Lists}
use Rattle.scan_fmt.proofs.set.add_ranges.Given as goal

-- the spans have what the ranges so far list
abbrev pub invariant-listed : goal.invariant-listed
invariant-listed l = shadow (Utf8 l.ranges) × Lists (is_covered l.spans.items) (chars l.ranges) (is_covered l.fn.spans.items) (chars l.fn.ranges)

abbrev pub decreases-listed : goal.decreases-listed
decreases-listed l = length l.ranges
