use Rattle.scan_fmt.proofs.Expressions.{front_of_parts}
use Rattle.scan_fmt.proofs.expression.Expression.pass.Goals as goal

pub returns-else-stored-clause-lies : goal.returns-else-stored-clause-lies
returns-else-stored-clause-lies c =
    let found = c.in_ok-token.field-0 in
    front_of_parts c.args.input.now found.token.now found.behind.now found.rest.now c.in_ok-token.ensures.parts
