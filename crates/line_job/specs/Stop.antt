-- Why a run stops.
use Rattle.std.specs.Prelude.{◌⊎◌, ℕ, Result, IsErrOf}
use Rattle.line_job.specs.declared.job.Refusal.{Refusal}
use Rattle.line_job.specs.declared.job.Refusal.TheVariants.{Line as RefusalLine, NoMemory as RefusalNoMemory}
use Rattle.line_job.specs.declared.stop.Stop.{Stop}
use Rattle.line_job.specs.declared.stop.Stop.TheVariants.{Line, NotUtf8, TooLong, ReadFault, WriteFault, NoMemory}

-- What a job's refusal is to a run.
abbrev pub stop_of : {Why : Type 0} → Refusal Why → Stop Why
stop_of (RefusalLine why) = Line why
stop_of RefusalNoMemory = NoMemory

-- A line was refused, or one is missing.
abbrev pub IsOfLines : {Why : Type 0} → Stop Why → Type 0
IsOfLines (Line why) = Unit {0}
IsOfLines (NotUtf8 line) = Unit {0}
IsOfLines TooLong = ⊥
IsOfLines ReadFault = ⊥
IsOfLines WriteFault = ⊥
IsOfLines NoMemory = ⊥

-- A read or a write failed, or memory ran out.
abbrev pub StopsEarly : {Why : Type 0} → Result ℕ (Stop Why) → Type 0
StopsEarly result = IsErrOf result ReadFault ⊎ (IsErrOf result WriteFault ⊎ IsErrOf result NoMemory)
