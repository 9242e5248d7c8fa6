use Rattle.std.proofs.Common.{ℕ, ap, ◌∙◌}
use Rattle.edge_io.specs.declared.system.StdinSource.{StdinSource}
use Rattle.whiteread.specs.ReaderState.{fault_counts}
use Rattle.whiteread.proofs.reader.ends.Reader+StdinSource.from_stdin_naive.Goals as goal

pub returns : goal.returns
returns c =
    let new = c.new-2.ensures in
    let made = c.new.ensures in record {
      given = ap (λ (s : StdinSource). s.given) new.source ∙ made.given;
      faults = new.faults ∙ ap (λ (n : ℕ). fault_counts n 0 0) made.faults;
      limit_is = new.limit;
      taken = new.taken;
      past = new.past;
      waiting = new.waiting;
      line = new.line;
      passed = new.passed;
      row = new.row;
    }
