-- What a job says of a line that it doesn't take.
use Rattle.std.specs.Prelude.{Result, Ok, Err}
use Rattle.line_job.specs.declared.job.Refusal.{Refusal}
use Rattle.line_job.specs.declared.job.Refusal.TheVariants.{Line, NoMemory}

-- This holds of the cause, where a line is refused.
abbrev pub IfRefused : {T Why : Type 0} → Result T (Refusal Why) → (Why → Type 0) → Type 0
IfRefused (Ok t) P = Unit {0}
IfRefused (Err (Line why)) P = P why
IfRefused (Err NoMemory) P = Unit {0}
