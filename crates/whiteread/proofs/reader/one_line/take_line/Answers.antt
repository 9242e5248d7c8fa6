use Rattle.std.proofs.Common.{rules, ◌≢◌, length, Some, Ok}
use Rattle.whiteread.specs.Lines.OneLine.{GivesByte, longest_line}
use Rattle.whiteread.proofs.OneLineLemmas.{taken_no_memory}
use Rattle.whiteread.proofs.reader.one_line.take_line.Goals as goal

pub returns-then-is_err : goal.returns-then-is_err
returns-then-is_err g c =
    let gives : GivesByte g.S.Source.supply c.bytes.source (Ok (Some c.in-Some.byte)) c.read_byte.new.source = search rules in
    let short : length c.bytes.line.items ≢ longest_line = search rules in
    taken_no_memory g.S.Source.supply c.args.source.now c.bytes.source c.read_byte.new.source c.bytes.line.items c.in-Some.byte c.bytes.invariant gives short
