use Rattle.std.proofs.Common.{◌≡◌, ◌∷◌, ◌∙◌, ap}
use Rattle.std.specs.Str.{chars}
use Rattle.std.proofs.lemmas.Result.{IfOk-weaker}
use Rattle.scan_fmt.proofs.Options.{if_none_map}
use Rattle.scan_fmt.proofs.Spelled.{directive_none}
use Rattle.scan_fmt.proofs.directive.front_directive.Goals as goal

pub returns-in-None-strip-clause-none : goal.returns-in-None-strip-clause-none
returns-in-None-strip-clause-none c =
    let is : chars c.args.format.now ≡ 123 ∷ chars c.in-Some.rest.now = c.in-Some.ensures.some ∙ ap (λ n. n ∷ chars c.in-Some.rest.now) c.if-c-ne123.false in
    IfOk-weaker c.field.result _ _ (λ o none. if_none_map o _ _ (directive_none (chars c.args.format.now) (chars c.in-Some.rest.now) is c.in-None-strip.ensures.none) none) c.field.ensures.none
