use Rattle.whiteread.specs.ReaderState.{reader_waiting}
use Rattle.whiteread.proofs.LineLemmas.{waits_is}
use Rattle.whiteread.proofs.reader.Reader.line_waits.Goals as goal

pub returns-clause-waits : goal.returns-clause-waits
returns-clause-waits g c = waits_is (reader_waiting c.args.self.now) _ _ c.is_some.ensures c.line_len.ensures.line
