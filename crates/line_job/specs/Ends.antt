-- What a call saw of its ends.
use Rattle.std.specs.Prelude.{◌≡◌, ◌⊎◌, ℕ, List, Option}
use Rattle.std.specs.Io.KnownBytes.{Appends}
use Rattle.edge_io.specs.Ends.{Rises, AppendsFront}
use Rattle.edge_io.specs.Supply.{Supply}

-- What a source shows: the bytes still to come, where they are told; how many it has given; how often it has failed.
pub record SourceState : Type 0 where
  pub rest : Option (List ℕ)
  pub given : ℕ
  pub faults : ℕ

-- What a sink shows: the bytes that it holds, where they are told; how often it has failed.
pub record SinkState : Type 0 where
  pub held : Option (List ℕ)
  pub faults : ℕ

-- An end before a call and after it.
pub record Seen (State : Type 0) : Type 0 where
  pub before : State
  pub after : State

-- What a call saw of a source.
abbrev pub source_seen : {S : Type 0} → Supply S → S → S → Seen SourceState
source_seen supply old new = record {
  before = record { rest = supply.rest old; given = supply.given old; faults = supply.faults old };
  after = record { rest = supply.rest new; given = supply.given new; faults = supply.faults new };
}

-- What a call saw of a sink.
abbrev pub sink_seen : {K : Type 0} → (K → Option (List ℕ)) → (K → ℕ) → K → K → Seen SinkState
sink_seen held faults old new = record {
  before = record { held = held old; faults = faults old };
  after = record { held = held new; faults = faults new };
}

-- The source counted a fault in this call.
abbrev pub CountsReadFault : Seen SourceState → Type 0
CountsReadFault input = Rises input.before.faults input.after.faults

-- The sink counted a fault in this call.
abbrev pub CountsWriteFault : Seen SinkState → Type 0
CountsWriteFault output = Rises output.before.faults output.after.faults

-- The sink took exactly this text, where what it holds is told.
abbrev pub Took : Seen SinkState → List ℕ → Type 0
Took output text = Appends output.before.held output.after.held text

-- The sink took a front of this text, where what it holds is told.
abbrev pub TookFront : Seen SinkState → List ℕ → Type 0
TookFront output text = AppendsFront output.before.held output.after.held text

-- The text was told whole, and no fault was counted; or a front of it was told, and a fault was counted.
abbrev pub Tells : Seen SinkState → List ℕ → Type 0
Tells errors text = (Took errors text × (errors.after.faults ≡ errors.before.faults)) ⊎ (TookFront errors text × CountsWriteFault errors)
