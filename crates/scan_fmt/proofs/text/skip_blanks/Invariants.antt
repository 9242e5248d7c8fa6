use denote.Text.{Utf8}
use denote.Shadow.{shadow}
use Rattle.std.proofs.Common.{◌≡◌, length}
use Rattle.std.specs.Str.{chars}
use Rattle.scan_fmt.specs.Grammar.{after_blanks}
use Rattle.scan_fmt.proofs.text.skip_blanks.Given as goal

-- what was passed is white space
abbrev pub invariant-blanks : goal.invariant-blanks
invariant-blanks l = shadow (Utf8 l.rest) × (after_blanks (chars l.rest) ≡ after_blanks (chars l.text))

abbrev pub decreases-blanks : goal.decreases-blanks
decreases-blanks l = length l.rest
