use Rattle.std.specs.Str.{chars}
use Rattle.scan_fmt.proofs.Options.{if_none}
use Rattle.scan_fmt.proofs.Spelled.{closed_none}
use Rattle.scan_fmt.proofs.directive.closed_listing.Goals as goal

pub returns-in_err-rest-clause-none : goal.returns-in_err-rest-clause-none
returns-in_err-rest-clause-none c =
    let found = c.in_ok-listing.ensures.some in
    if_none _ _ (closed_none (chars c.args.text.now) (chars c.in_ok-listing.listing.now) (chars c.in_ok-listing.rest.now) found.0 found.1 c.in_err-rest.ensures.none)
