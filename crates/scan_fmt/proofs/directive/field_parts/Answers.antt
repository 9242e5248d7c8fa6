use Rattle.std.proofs.Common.{refl}
use Rattle.std.specs.Str.{chars}
use Rattle.scan_fmt.proofs.Options.{if_none}
use Rattle.scan_fmt.proofs.Spelled.{field_none_star, field_none_plain}
use Rattle.scan_fmt.proofs.directive.field_parts.Goals as goal

pub returns-in_err-body-in-Some-clause-none : goal.returns-in_err-body-in-Some-clause-none
returns-in_err-body-in-Some-clause-none c =
    if_none _ _ (field_none_star (chars c.args.text.now) (chars c.in-Some.text.now) c.in-Some.ensures.some c.in_err-body-in-Some.ensures.none)

pub returns-in_ok-body-in-Some-clause-some : goal.returns-in_ok-body-in-Some-clause-some
returns-in_ok-body-in-Some-clause-some c = (chars c.in-Some.text.now, c.in-Some.ensures.some, c.in_ok-body-in-Some.ensures.some)

pub returns-in_err-body-in-None-clause-none : goal.returns-in_err-body-in-None-clause-none
returns-in_err-body-in-None-clause-none c =
    if_none _ _ (field_none_plain (chars c.args.text.now) c.in-None.ensures.none c.in_err-body-in-None.ensures.none)

pub returns-in_ok-body-in-None-clause-some : goal.returns-in_ok-body-in-None-clause-some
returns-in_ok-body-in-None-clause-some c = (chars c.args.text.now, refl, c.in_ok-body-in-None.ensures.some)
