-- What was cut off ends the line, and the line may be cut there.
use Rattle.std.proofs.Common.{◌≡◌, ◌+◌, ◌≤◌, length, take}
use Rattle.std.specs.List.{suffix_len}
use Rattle.std.specs.Str.{IsCharBoundary}
use Rattle.whiteread.specs.Located.Rendered.{is_line_end}
use Rattle.whiteread.proofs.reader.error.without_line_end.Given as goal

abbrev pub invariant-ends : goal.invariant-ends
invariant-ends l = record {
  within : l.end ≤ length l.line;
  boundary : IsCharBoundary l.line l.end;
  cut : l.end + suffix_len is_line_end l.line ≡ length l.line + suffix_len is_line_end (take l.end l.line);
}

abbrev pub decreases-ends : goal.decreases-ends
decreases-ends l = l.end
