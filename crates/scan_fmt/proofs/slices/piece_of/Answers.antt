use Rattle.std.proofs.Common.{◌++◌, length, ap, arith, length-append}
use Rattle.scan_fmt.proofs.Pieces.{piece_is}
use Rattle.scan_fmt.proofs.slices.piece_of.Goals as goal

pub overflow_sub-end : goal.overflow_sub-end
overflow_sub-end c = omega (arith, ap length c.requires.1, length-append c.requires.0 (c.args.token.now ++ c.args.behind.now), length-append c.args.token.now c.args.behind.now)

pub overflow_sub-start : goal.overflow_sub-start
overflow_sub-start c = omega (arith, ap length c.requires.1, length-append c.requires.0 (c.args.token.now ++ c.args.behind.now), length-append c.args.token.now c.args.behind.now)

pub returns-clause-piece : goal.returns-clause-piece
returns-clause-piece c = piece_is c.args.input.now c.requires.0 c.args.token.now c.args.behind.now _ c.requires.1 c.utf8.token c.utf8.behind (omega arith) (omega arith)

pub returns-clause-starts : goal.returns-clause-starts
returns-clause-starts c = omega (arith, ap length c.requires.1, length-append c.requires.0 (c.args.token.now ++ c.args.behind.now), length-append c.args.token.now c.args.behind.now)

pub returns-clause-ends : goal.returns-clause-ends
returns-clause-ends c = omega (arith, ap length c.requires.1, length-append c.requires.0 (c.args.token.now ++ c.args.behind.now), length-append c.args.token.now c.args.behind.now)
