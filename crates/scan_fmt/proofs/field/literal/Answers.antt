use Rattle.std.proofs.Common.{rules}
use Rattle.scan_fmt.proofs.Taking.{character_front}
use Rattle.scan_fmt.proofs.field.literal.Goals as goal

pub returns-in-Some-clause-lies : goal.returns-in-Some-clause-lies
returns-in-Some-clause-lies c = character_front c.args.c c.args.input.now c.in-Some.rest.now c.utf8.input (search rules) c.in-Some.ensures.some
