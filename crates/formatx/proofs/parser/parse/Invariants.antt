-- The segments so far spell what was read.
use denote.Text.{Utf8}
use denote.Shadow.{shadow}
use Rattle.std.proofs.Common.{length}
use Rattle.formatx.proofs.ReadingLemmas.{IsReadTo}
use Rattle.formatx.proofs.parser.parse.Given as goal

abbrev pub invariant-segments : goal.invariant-segments
invariant-segments l = shadow (Utf8 l.rest) × IsReadTo l.source l.rest l.segments.items

abbrev pub decreases-segments : goal.decreases-segments
decreases-segments l = length l.rest
