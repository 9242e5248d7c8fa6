use Rattle.std.proofs.Common.{ℕ, ap, ◌∙◌}
use Rattle.edge_io.specs.declared.system.FileSource.{FileSource}
use Rattle.whiteread.specs.ReaderState.{fault_counts}
use Rattle.whiteread.proofs.reader.ends.Reader+FileSource.open.Goals as goal

pub returns-in-Ok-clause-ok : goal.returns-in-Ok-clause-ok
returns-in-Ok-clause-ok c =
    let new = c.new.ensures in record {
      given = ap (λ (s : FileSource). s.given) new.source ∙ c.in-Ok.ensures.given;
      faults = new.faults ∙ ap (λ (n : ℕ). fault_counts n 0 0) c.in-Ok.ensures.faults;
      limit_is = new.limit;
      taken = new.taken;
      past = new.past;
      waiting = new.waiting;
      line = new.line;
      passed = new.passed;
      row = new.row;
    }
