-- What a run of the rewriting job says, over what it saw of its ends.
use Rattle.std.specs.Prelude.{◌≡◌, ◌≤◌, ◌⊎◌, ◌-◌, ℕ, List, length, IfSome, OnOk, IfOk, Result, Ok, Err, IsOk, IsErrOf}
use Rattle.std.specs.Io.KnownBytes.{IsAtEnd}
use Rattle.whiteread.specs.Lines.{lines_of}
use Rattle.line_job.specs.declared.stop.Stop.{Stop}
use Rattle.line_job.specs.Ends.{Seen, SourceState, SinkState, CountsReadFault, CountsWriteFault, Took}
use Rattle.line_job.specs.Runs.{Runs}
use Rattle.header_lines.specs.declared.cause.LineCause.{LineCause}
use Rattle.header_lines.specs.declared.heading.Version.{Version}
use Rattle.header_lines.specs.Heading.{first_next, number_in}
use Rattle.rewriting.specs.declared.error.ReformatError.{ReformatError}
use Rattle.rewriting.specs.declared.error.ReformatError.TheVariants.{NoMemory}
use Rattle.rewriting.specs.Error.{error_of}
use Rattle.rewriting.specs.Rewritten.{AreRewritten, IsRewritten}
use Rattle.rewriting.specs.Rules.{heading_next, rewrite_rules}

-- All of the known input was read, and the known output grew by what is written for it.
abbrev pub WritesAll : Seen SourceState → Seen SinkState → Type 0
WritesAll input output = IfSome input.before.rest (λ bytes. IsAtEnd input.after.rest × ((text : List ℕ) × IsRewritten bytes text × Took output text))

-- The result of a run by its lines: a success counts the lines behind the headers of its version, and a refusal has its own name.
abbrev pub IsResultOf : Result ℕ (Stop LineCause) → Result ℕ ReformatError → Type 0
IsResultOf (Ok lines) result = (version : Version) × (result ≡ Ok (lines - number_in version 4))
IsResultOf (Err stop) result = result ≡ Err (error_of stop)

-- The clauses of the rewriting job: those of a run by its rules, and in the words of rows.
pub record Reformats (limit : ℕ) (input : Seen SourceState) (output : Seen SinkState) (result : Result ℕ ReformatError) : Type 0 where
  -- there is an answer with the clauses of a run, and this is its result
  pub answer : Result ℕ (Stop LineCause)
  pub runs : Runs rewrite_rules (heading_next first_next) limit input output answer
  pub result_is : IsResultOf answer result
  -- success: all was read, and the output grew by the text of the rows
  pub rewritten : OnOk result (WritesAll input output)
  -- the number of a success is the number of rows
  pub rows : IfOk result (λ n. IfSome input.before.rest (λ bytes. (text : List ℕ) × (r : AreRewritten (lines_of bytes) text) × (length r.rows ≡ n)))
  -- completeness: input within the limit that is rewritten at all gives a success, where no fault was counted and memory was there
  pub complete : IfSome input.before.rest (λ bytes. (text : List ℕ) → IsRewritten bytes text → length bytes ≤ limit → ¬ CountsReadFault input → ¬ CountsWriteFault output
      → IsOk result ⊎ IsErrOf result NoMemory)

-- Known input within the limit that is rewritten at all gives status 0 or that of want of memory, where no fault was counted.
abbrev pub Completes : ℕ → Seen SourceState → Seen SinkState → ℕ → Type 0
Completes limit input output status = IfSome input.before.rest (λ bytes. (text : List ℕ) → IsRewritten bytes text → length bytes ≤ limit → ¬ CountsReadFault input → ¬ CountsWriteFault output
    → (status ≡ 0) ⊎ (status ≡ 6))
