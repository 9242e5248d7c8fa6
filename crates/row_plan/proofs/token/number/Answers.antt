use Rattle.std.proofs.Common.{arith}
use Rattle.row_format.specs.Row.{ReadsDecimal, StandsFor}
use Rattle.row_plan.proofs.Ascii.{decimal_ascii, based_ascii, finds_characters}
use Rattle.row_plan.proofs.token.number.Goals as goal

pub returns-in-DecInt : goal.returns-in-DecInt
returns-in-DecInt c = rw c.in-DecInt.is (finds_characters (ReadsDecimal c.args.kind) (decimal_ascii c.args.kind) c.args.kind c.args.token.now c.decimal.result c.utf8.token c.decimal.ensures)

pub returns-in-OctInt : goal.returns-in-OctInt
returns-in-OctInt c = rw c.in-OctInt.is (finds_characters (StandsFor 8 c.args.kind) (based_ascii 8 (omega arith) c.args.kind) c.args.kind c.args.token.now c.based.result c.utf8.token c.based.ensures)

pub returns-in-HexIntLower : goal.returns-in-HexIntLower
returns-in-HexIntLower c = rw c.in-HexIntLower.is (finds_characters (StandsFor 16 c.args.kind) (based_ascii 16 (omega arith) c.args.kind) c.args.kind c.args.token.now c.based-in-HexIntLower.result c.utf8.token c.based-in-HexIntLower.ensures)

pub returns-in-HexIntUpper : goal.returns-in-HexIntUpper
returns-in-HexIntUpper c = rw c.in-HexIntUpper.is (finds_characters (StandsFor 16 c.args.kind) (based_ascii 16 (omega arith) c.args.kind) c.args.kind c.args.token.now c.based-in-HexIntUpper.result c.utf8.token c.based-in-HexIntUpper.ensures)
