use Rattle.std.proofs.Common.{◌∙◌, ap}
use Rattle.std.specs.Str.{chars}
use Rattle.scan_fmt.proofs.Expressions.{built_some, refused_none}
use Rattle.scan_fmt.proofs.expression.Expression.new.Goals as goal

pub returns-in-Ok-new-clause-read : goal.returns-in-Ok-new-clause-read
returns-in-Ok-new-clause-read c =
    let built = c.in-Ok.ensures in
    built_some (chars c.args.pattern.now) c.in-Ok.regex (record { source = ap chars (built.source ∙ c.as_str.ensures.value) ∙ c.in_ok-source.ensures; config = built.config; read = built.read })

pub returns-in-Err-Syntax-clause-none : goal.returns-in-Err-Syntax-clause-none
returns-in-Err-Syntax-clause-none c =
    let refused = c.in-Err-Syntax.ensures in
    refused_none c.as_str.result.now (chars c.args.pattern.now) c.in-Err-Syntax.field-0 c.in-Err-Syntax.field-0-0 c.in-Err-Syntax.field-0-is refused.by_grammar refused.kind (ap chars c.as_str.ensures.value ∙ c.in_ok-source.ensures)
