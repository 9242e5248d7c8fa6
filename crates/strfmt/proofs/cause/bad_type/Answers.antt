use Rattle.std.proofs.Common.{rules}
use Rattle.strfmt.proofs.FieldLemmas.{escaped_is}
use Rattle.strfmt.proofs.cause.bad_type.Goals as goal

pub returns : goal.returns
returns c = rw (escaped_is c.args.ty) (search rules)
