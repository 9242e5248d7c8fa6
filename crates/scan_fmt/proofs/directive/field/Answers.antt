use Rattle.std.specs.Str.{chars}
use Rattle.scan_fmt.specs.Inner.Parts.{body_of}
use Rattle.scan_fmt.proofs.Spelled.{field_spells}
use Rattle.scan_fmt.proofs.Cutting.{none_readable}
use Rattle.scan_fmt.proofs.directive.field.Goals as goal

pub returns-in_default-clause-none : goal.returns-in_default-clause-none
returns-in_default-clause-none c = λ stored s rest h readable. c.in_default.ensures.none stored s rest h

pub returns-in-Some-2-clause-some : goal.returns-in-Some-2-clause-some
returns-in-Some-2-clause-some c =
    let readable = rw c.in-Some-2.is at c.in_ok-directive.ensures.read in
    let is = rw c.in-Some-2.is at c.in_ok-directive.ensures.directive in
    rw is (field_spells c.in-Some.stored (body_of c.in-Some.body) (chars c.args.text.now) (chars c.in-Some.rest.now) c.in-Some.ensures.some readable)

pub returns-in-None-clause-none : goal.returns-in-None-clause-none
returns-in-None-clause-none c =
    let unread = rw c.in-None.is at c.in_ok-directive.ensures.none in
    none_readable c.in-Some.stored (body_of c.in-Some.body) (chars c.args.text.now) (chars c.in-Some.rest.now) c.in-Some.ensures.some unread
