use Rattle.scan_fmt.proofs.Expressions.{anchored_chars}
use Rattle.std.proofs.Common.{string_bytes}
use Rattle.scan_fmt.proofs.expression.anchored.Goals as goal

pub returns : goal.returns
returns c = anchored_chars (string_bytes c.in-Ok.source) c.args.pattern.now c.utf8.pattern c.in-Ok.ensures.ok
