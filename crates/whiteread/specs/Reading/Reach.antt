-- Calls of `next` alone lead from a stream to another one: proved laws, for proofs to cite.
use Rattle.std.proofs.Common.{◌≡◌, List, [], ◌∷◌, Result, refl, subst}
use Rattle.whiteread.specs.Stream.{Stream, Answer}
use Rattle.whiteread.specs.Reading.{Reading, ReadCall, Calls, no_call, one_call, some_calls, StepsBy, Reaches, Reached}
use Rattle.whiteread.specs.declared.stream.error.Error.{Error}

-- no call
pub reached_none : {S : Type 0} (step : S → Answer → S → Type 0) (old new : S) → new ≡ old → Reached step old new
reached_none step old new is = record { streams = []; steps = is }

-- one call
pub reached_one : {S : Type 0} (step : S → Answer → S → Type 0) (old : S) (answer : Answer) (new : S) → step old answer new → Reached step old new
reached_one step old answer new by = record { streams = new ∷ []; steps = ((answer, by), refl) }

reaches_join : {S : Type 0} (step : S → Answer → S → Type 0) (old mid : S) (streams : List S) (new : S) → Reaches step old streams mid → Reached step mid new → Reached step old new
reaches_join step old mid [] new one two = subst (λ s. Reached step s new) one two
reaches_join step old mid (next ∷ more) new one two =
    let rest : Reached step next new = reaches_join step next mid more new one.1 two in
    record { streams = next ∷ rest.streams; steps = (one.0, rest.steps) }

-- the calls of one and then those of the other
pub reached_then : {S : Type 0} (step : S → Answer → S → Type 0) (old mid new : S) → Reached step old mid → Reached step mid new → Reached step old new
reached_then step old mid new one two = reaches_join step old mid one.streams new one.steps two

-- and one call more
pub reached_next : {S : Type 0} (step : S → Answer → S → Type 0) (old mid : S) (answer : Answer) (new : S) → Reached step old mid → step mid answer new → Reached step old new
reached_next step old mid answer new one by = reached_then step old mid new one (reached_one step mid answer new by)

pub reached_by : {S T : Type 0} (calls : Calls) (step : S → Answer → S → Type 0) (old : S) (answer : Result T Error) (new : S) → StepsBy calls step old answer new → Reached step old new
reached_by no_call step old answer new by = reached_none step old new by
reached_by one_call step old answer new by = reached_one step old by.0 new by.1
reached_by some_calls step old answer new by = by

-- a call of `read` makes calls of `next` alone
pub reached_read : {S T : Type 0} (stream : Stream S) (reading : Reading T) (old : S) (answer : Result T Error) (new : S) → ReadCall stream reading old answer new → Reached stream.step old new
reached_read stream reading old answer new one = reached_by reading.calls stream.step old answer new one.step

-- one reading after another
pub reached_reads : {S A B : Type 0} (stream : Stream S) (first : Reading A) (second : Reading B) (old : S) (one : Result A Error) (mid : S) (two : Result B Error) (new : S)
    → ReadCall stream first old one mid → ReadCall stream second mid two new → Reached stream.step old new
reached_reads stream first second old one mid two new a b = reached_then stream.step old mid new (reached_read stream first old one mid a) (reached_read stream second mid two new b)
