use Rattle.std.proofs.Common.{rules}
use Rattle.scan_fmt.specs.Inner.Parts.{shape_of}
use Rattle.scan_fmt.proofs.Taking.{shape_front, shape_parts}
use Rattle.scan_fmt.proofs.directive.Shape.pass.Goals as goal

pub returns-then-stored-clause-lies : goal.returns-then-stored-clause-lies
returns-then-stored-clause-lies c = shape_parts (shape_of c.args.self.now) c.args.input.now c.split.result.0.now c.token-token.result.now c.split.result.1.now c.utf8.input c.token-token.utf8 (search rules) c.split.ensures c.token-token.ensures

pub returns-else-stored-clause-lies : goal.returns-else-stored-clause-lies
returns-else-stored-clause-lies c = shape_front (shape_of c.args.self.now) c.args.input.now c.split.result.0.now c.split.result.1.now c.utf8.input (search rules) c.split.ensures
