-- What the command over a sample says.
use Rattle.std.specs.Prelude.{◌≡◌, ◌⊎◌, ℕ, List, codes}
use Rattle.line_job.specs.Ends.{Seen, SinkState, CountsWriteFault, Took, TookFront, Tells}
use Rattle.sample_job.specs.Summary.{IsSummary}

-- The summary was written, no fault was counted, and nothing was told.
pub record Sums (n : ℕ) (output errors : Seen SinkState) (status : ℕ) : Type 0 where
  pub status_is : status ≡ 0
  pub line : List ℕ
  pub summary : IsSummary n line
  pub took : Took output line
  pub no_fault : output.after.faults ≡ output.before.faults
  pub quiet : errors.after ≡ errors.before

-- A write failed, after a front of the summary, and that was told.
pub record FailsToWrite (n : ℕ) (output errors : Seen SinkState) (status : ℕ) : Type 0 where
  pub status_is : status ≡ 5
  pub line : List ℕ
  pub summary : IsSummary n line
  pub took : TookFront output line
  pub fault : CountsWriteFault output
  pub tells : Tells errors (codes "write fault\n")

-- There was no memory: nothing was written, and that was told.
pub record LacksMemory (output errors : Seen SinkState) (status : ℕ) : Type 0 where
  pub status_is : status ≡ 6
  pub nothing : output.after ≡ output.before
  pub tells : Tells errors (codes "no memory\n")

-- One of these three is the end.
abbrev pub Samples : ℕ → Seen SinkState → Seen SinkState → ℕ → Type 0
Samples n output errors status = Sums n output errors status ⊎ (FailsToWrite n output errors status ⊎ LacksMemory output errors status)
