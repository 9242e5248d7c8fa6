use denote.Text.{Utf8}
use denote.Shadow.{shadow}
use Rattle.std.proofs.Common.{length, map}
use Rattle.std.specs.Str.{chars}
use Rattle.scan_fmt.specs.Inner.Parts.{directive_of}
use Rattle.scan_fmt.proofs.Taking.{CutsOn}
use Rattle.scan_fmt.proofs.parse.Format.new.Given as goal

-- the directives so far and those of the rest are the format's
abbrev pub invariant-cut : goal.invariant-cut
invariant-cut l = shadow (Utf8 l.rest) × CutsOn (chars l.fn.format) (chars l.rest) (map directive_of l.directives.items)

abbrev pub decreases-cut : goal.decreases-cut
decreases-cut l = length (chars l.rest)
