-- How a call answers what is defined, or want of memory.
use Rattle.std.specs.Prelude.{◌≡◌, ◌⊎◌, ◌++◌, ℕ, List, Result, Ok, Err}

-- The answer is the defined one, or want of memory; `view` is what counts of a value.
abbrev pub IsAnswer : {T V E : Type 0} → (T → V) → E → Result V E → Result T E → Type 0
IsAnswer view no_memory defined (Ok value) = defined ≡ Ok (view value)
IsAnswer view no_memory defined (Err e) = (defined ≡ Err e) ⊎ (e ≡ no_memory)

-- The list grew by the defined one, or the answer is the defined refusal or want of memory and the list is as before.
abbrev pub AppendsAnswer : {U E : Type 0} → E → Result (List ℕ) E → List ℕ → List ℕ → Result U E → Type 0
AppendsAnswer no_memory defined old new (Ok _) = (text : List ℕ) × (defined ≡ Ok text) × (new ≡ old ++ text)
AppendsAnswer no_memory defined old new (Err e) = ((defined ≡ Err e) ⊎ (e ≡ no_memory)) × (new ≡ old)

-- The same for refusals that hold texts of their own: `IsFault e fault` says that the refusal is the defined fault.
abbrev pub IsAnswerBy : {T V E F : Type 0} → (T → V) → (E → F → Type 0) → E → Result V F → Result T E → Type 0
IsAnswerBy view IsFault no_memory defined (Ok value) = defined ≡ Ok (view value)
IsAnswerBy {F = F} view IsFault no_memory defined (Err e) = ((fault : F) × (defined ≡ Err fault) × IsFault e fault) ⊎ (e ≡ no_memory)
