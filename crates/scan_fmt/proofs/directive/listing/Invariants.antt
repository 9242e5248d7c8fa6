use denote.Text.{Utf8}
use denote.Shadow.{shadow}
use Rattle.std.proofs.Common.{length, true}
use Rattle.scan_fmt.specs.Sets.{IsListing}
use Rattle.scan_fmt.proofs.Characters.{Passed}
use Rattle.scan_fmt.proofs.directive.listing.Given as goal

-- what was passed is a listing
abbrev pub invariant-listed : goal.invariant-listed
invariant-listed l = shadow (Utf8 l.rest) × Passed (IsListing true) l.text l.rest

abbrev pub decreases-listed : goal.decreases-listed
decreases-listed l = length l.rest
