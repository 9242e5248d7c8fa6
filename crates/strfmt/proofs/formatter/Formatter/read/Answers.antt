use Rattle.std.proofs.Common.{rules}
use Rattle.strfmt.proofs.ReadLemmas.{read_ok, read_err}
use Rattle.strfmt.proofs.formatter.Formatter.read.Goals as goal

pub returns-in-None : goal.returns-in-None
returns-in-None c =
    read_ok c.args.pattern.now c.split.result.1.now c.split.result.0.now c.parse-parts.ensures.0 c.parse-parts.result _ c.split.ensures.specification c.split.ensures.key c.parse-parts.ensures.1 c.parse-parts.ensures.2
    (search rules) c.from_parts.ensures

pub returns-in-Some : goal.returns-in-Some
returns-in-Some c =
    read_err c.args.pattern.now c.split.result.1.now c.split.result.0.now c.parse-parts.ensures.0 c.parse-parts.result _ c.split.ensures.specification c.split.ensures.key c.parse-parts.ensures.1 c.parse-parts.ensures.2
    (search rules)
