use Rattle.std.proofs.Common.{refl}
use Rattle.std.specs.Str.{chars}
use Rattle.scan_fmt.specs.Inner.Fields.{alone}
use Rattle.scan_fmt.specs.Inner.Parts.{body_of}
use Rattle.scan_fmt.proofs.Options.{if_none_map, if_some_map}
use Rattle.scan_fmt.proofs.Spelled.{body_none, body_named}
use Rattle.scan_fmt.proofs.directive.field_body.Goals as goal

pub returns-clause-none : goal.returns-clause-none
returns-clause-none c =
    let limit = c.limit-limit.ensures in
    if_none_map _ _ _ (λ none. body_none (chars c.args.text.now) limit.0 (chars c.limit-limit.result.1.now) c.limit-limit.result.0 limit.1 limit.2 c.in_default.ensures.none none) c.named_body.ensures.none

pub returns-clause-some : goal.returns-clause-some
returns-clause-some c =
    let limit = c.limit-limit.ensures in
    if_some_map c.named_body.result _ _ (λ p names. body_named (body_of p.0) (chars c.args.text.now) limit.0 (chars c.limit-limit.result.1.now) (chars p.1.now) c.limit-limit.result.0 limit.1 limit.2 names) c.named_body.ensures.some

pub returns-in-Some-clause-some : goal.returns-in-Some-clause-some
returns-in-Some-clause-some c = alone c.first.result refl c.in-Some.ensures.some c.first.ensures
