-- What a run of a job over a source and a sink says.
use Rattle.std.specs.Prelude.{◌≡◌, ◌<◌, ◌≤◌, ◌⊎◌, ◌+◌, ◌-◌, ◌↔◌, ℕ, List, ◌++◌, length, IfSome, OnOk, IfOk, IfErr, Result, IsOk, IsErrOf}
use Rattle.std.specs.Io.KnownBytes.{Consumes, IsAtEnd}
use Rattle.whiteread.specs.Lines.{lines_of}
use Rattle.line_job.specs.declared.stop.Stop.{Stop}
use Rattle.line_job.specs.declared.stop.Stop.TheVariants.{TooLong, ReadFault, WriteFault, NoMemory}
use Rattle.line_job.specs.Stop.{IsOfLines, StopsEarly}
use Rattle.line_job.specs.Ends.{Seen, SourceState, SinkState, CountsReadFault, CountsWriteFault, Took, TookFront}
use Rattle.line_job.specs.Rules.{Rules, AreKept, WereKept, AreAllKept, AreRefused}
use Rattle.line_job.specs.Reached.{reaches_end, one_read, ended_lines, reached_lines}

-- All lines of the input are kept, and so is its end; this is owed for all of it.
abbrev pub IsKept : {Stage Why : Type 0} → Rules Stage Why → Stage → List ℕ → List ℕ → Type 0
IsKept rules start bytes text = AreAllKept rules 0 start (lines_of bytes) text

-- Of what is reached within the limit this is the first refusal, and this is owed for the lines before it.
abbrev pub IsRefused : {Stage Why : Type 0} → Rules Stage Why → Stage → ℕ → List ℕ → List ℕ → Stop Why → Type 0
IsRefused rules start limit bytes text stop = AreRefused rules (reaches_end limit bytes) 0 start (reached_lines limit bytes) text stop

-- These lines are kept, and the sink took exactly what is owed for them.
abbrev pub Wrote : {Stage Why : Type 0} → Rules Stage Why → Stage → Seen SinkState → List (List ℕ) → Type 0
Wrote {Stage = Stage} rules start output lines = (text : List ℕ) × (last : Stage) × AreKept rules 0 start lines text last × Took output text

-- The sink took exactly what is owed for some lines at the front of these, which are kept.
abbrev pub WroteLines : {Stage Why : Type 0} → Rules Stage Why → Stage → Seen SinkState → List (List ℕ) → Type 0
WroteLines rules start output lines = (front : List (List ℕ)) × (more : List (List ℕ)) × (lines ≡ front ++ more) × Wrote rules start output front

-- This is owed: for some lines at the front of these, or for all of the input.
abbrev pub IsOwed : {Stage Why : Type 0} → Rules Stage Why → Stage → ℕ → List ℕ → List ℕ → Type 0
IsOwed {Stage = Stage} rules start limit bytes text =
    ((front : List (List ℕ)) × (more : List (List ℕ)) × (last : Stage) × (reached_lines limit bytes ≡ front ++ more) × AreKept rules 0 start front text last)
    ⊎ ((length bytes ≤ limit) × IsKept rules start bytes text)

-- The clauses of a run with a limit of bytes; a clause that speaks of bytes says nothing of an end that doesn't tell them.
pub record Runs {Stage Why : Type 0} (rules : Rules Stage Why) (start : Stage) (limit : ℕ) (input : Seen SourceState) (output : Seen SinkState) (result : Result ℕ (Stop Why)) : Type 0 where
  -- success: all of the input was read and kept, and the sink took what is owed for it
  pub kept : OnOk result (IfSome input.before.rest (λ bytes. IsAtEnd input.after.rest × ((text : List ℕ) × IsKept rules start bytes text × Took output text)))
  -- the number of a success is the number of lines
  pub lines : IfOk result (λ n. IfSome input.before.rest (λ bytes. length (lines_of bytes) ≡ n))
  -- a success took no more than the limit
  pub within : OnOk result (input.after.given ≤ input.before.given + limit)
  -- a refusal of a line is the first of what is reached, and the sink took what is owed for the lines before it
  pub refused : IfErr result (λ stop. IsOfLines stop → IfSome input.before.rest (λ bytes. (text : List ℕ) × IsRefused rules start limit bytes text stop × Took output text))
  -- and it comes wherever what is reached gives it
  pub refuses : IfSome input.before.rest (λ bytes. (text : List ℕ) (stop : Stop Why) → IsRefused rules start limit bytes text stop → IsErrOf result stop ⊎ StopsEarly result)
  -- After a refusal of a line what was read goes less than one read past that line: the lines that ended before the last 4096 bytes which
  -- the source gave in this call were kept, so the refused line isn't one of them.
  pub read_no_further : IfErr result (λ stop. IsOfLines stop → IfSome input.before.rest (λ bytes. WereKept rules 0 start (ended_lines (input.after.given - input.before.given - one_read) bytes)))
  -- past the limit: exactly where the source gave more than the limit in this call
  pub too_long : IsErrOf result TooLong ↔ (input.before.given + limit < input.after.given)
  -- no more than one byte past the limit is taken
  pub taken : input.after.given ≤ input.before.given + limit + 1
  -- whatever the answer, what the source gave in this call stood at the front of what it had
  pub gave : (got : List ℕ) × Consumes input.before.rest input.after.rest got × (input.after.given ≡ input.before.given + length got)
  -- past the limit, each line that ended within it was kept, and the sink took what is owed for them
  pub past_limit : IsErrOf result TooLong → IfSome input.before.rest (λ bytes. (limit < length bytes) × Wrote rules start output (ended_lines limit bytes))
  -- a read fault comes only where the source counted one in this call
  pub read_fault : IsErrOf result ReadFault → CountsReadFault input
  -- What is owed for a line is written before another read is made: where that read fails, the sink took exactly what is owed for the
  -- lines that ended within the bytes given in this call.
  pub before_a_read : IsErrOf result ReadFault → IfSome input.before.rest (λ bytes. Wrote rules start output (ended_lines (input.after.given - input.before.given) bytes))
  -- no other answer has seen a fault of the source
  pub reads : IsErrOf result ReadFault ⊎ (input.after.faults ≡ input.before.faults)
  -- a write fault comes only where the sink counted one in this call
  pub write_fault : IsErrOf result WriteFault → CountsWriteFault output
  -- no other answer has seen a fault of the sink
  pub writes : IsErrOf result WriteFault ⊎ (output.after.faults ≡ output.before.faults)
  -- after a write fault the sink took a front of what is owed
  pub after_write_fault : IsErrOf result WriteFault → IfSome input.before.rest (λ bytes. (text : List ℕ) × IsOwed rules start limit bytes text × TookFront output text)
  -- after want of memory the sink took exactly what is owed for some lines at the front, so no part of a line's text
  pub after_no_memory : IsErrOf result NoMemory → IfSome input.before.rest (λ bytes. WroteLines rules start output (reached_lines limit bytes))
  -- completeness: input within the limit that is kept gives a success, where no fault was counted and memory was there
  pub complete : IfSome input.before.rest (λ bytes. (text : List ℕ) → IsKept rules start bytes text → length bytes ≤ limit → ¬ CountsReadFault input → ¬ CountsWriteFault output
      → IsOk result ⊎ IsErrOf result NoMemory)
