-- The exit status of a run, and what it tells on the error output.
use Rattle.std.specs.Prelude.{◌≡◌, ℕ, List, [], ◌++◌, codes, decimal, Result, Ok, Err}
use Rattle.line_job.specs.declared.stop.Stop.{Stop}
use Rattle.line_job.specs.declared.stop.Stop.TheVariants.{Line, NotUtf8, TooLong, ReadFault, WriteFault, NoMemory}
use Rattle.line_job.specs.Ends.{Seen, SourceState, SinkState, Tells}
use Rattle.line_job.specs.Rules.{Rules}
use Rattle.line_job.specs.Runs.{Runs}

-- The status of a refusal.
abbrev pub status_of : {Why : Type 0} → Stop Why → ℕ
status_of (Line why) = 1
status_of (NotUtf8 line) = 1
status_of TooLong = 3
status_of ReadFault = 4
status_of WriteFault = 5
status_of NoMemory = 6

-- The status of a result: 0 for a success.
abbrev pub result_status : {Why : Type 0} → Result ℕ (Stop Why) → ℕ
result_status (Ok lines) = 0
result_status (Err stop) = status_of stop

-- The message that names a line, and says what is wrong with it.
abbrev pub line_message : ℕ → List ℕ → List ℕ
line_message line what = codes "line " ++ (decimal line ++ (codes ": " ++ (what ++ codes "\n")))

-- The message of a refusal, by those of the job's own causes.
abbrev pub stop_message : {Why : Type 0} → (Why → List ℕ) → Stop Why → List ℕ
stop_message message (Line why) = message why
stop_message message (NotUtf8 line) = line_message line (codes "not UTF-8")
stop_message message TooLong = codes "input past the limit\n"
stop_message message ReadFault = codes "read fault\n"
stop_message message WriteFault = codes "write fault\n"
stop_message message NoMemory = codes "no memory\n"

-- The message of a result: none for a success.
abbrev pub result_message : {Why : Type 0} → (Why → List ℕ) → Result ℕ (Stop Why) → List ℕ
result_message message (Ok lines) = []
result_message message (Err stop) = stop_message message stop

-- There is a result with the clauses of a run, of which this is the status, and whose message was told.
pub record RunsTold {Stage Why : Type 0} (rules : Rules Stage Why) (start : Stage) (message : Why → List ℕ) (limit : ℕ) (input : Seen SourceState) (output errors : Seen SinkState) (status : ℕ) : Type 0 where
  pub result : Result ℕ (Stop Why)
  pub runs : Runs rules start limit input output result
  pub status_is : status ≡ result_status result
  pub tells : Tells errors (result_message message result)
