use Rattle.std.specs.Str.{chars}
use Rattle.scan_fmt.proofs.Options.{if_none}
use Rattle.scan_fmt.proofs.OneAnswer.{slash_open}
use Rattle.scan_fmt.proofs.directive.expression.Goals as goal

pub returns-in_err-rest-clause-none : goal.returns-in_err-rest-clause-none
returns-in_err-rest-clause-none c =
    let found = c.in_ok-pattern.ensures.some in
    if_none _ _ (slash_open (chars c.args.text.now) (chars c.in_ok-pattern.pattern.now) (chars c.in_ok-pattern.rest.now) found.0 found.1 c.in_err-rest.ensures.none)
