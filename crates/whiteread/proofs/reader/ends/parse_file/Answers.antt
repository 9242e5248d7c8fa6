use Rattle.std.proofs.Common.{inr}
use Rattle.whiteread.proofs.reader.ends.parse_file.Goals as goal

pub returns : goal.returns
returns g c = inr (record { old = c.in_ok-reader.reader; new = c.finish.new.self; begins = c.in_ok-reader.ensures.ok; told = c.finish.ensures })
