-- What a success owes, and what its header lines say one after the other, whatever the rules are.
use Rattle.std.proofs.Common.{◌≡◌, ◌+◌, ◌++◌, ℕ, List, [], ◌∷◌, true, false, refl, ap, ◌∙◌, subst, inl, inr, arith, Option, Some, None, Result, Ok, Err, IfSome}
use Rattle.std.specs.Str.{IsUtf8}
use Rattle.std.specs.Io.KnownBytes.{IsAtEnd}
use Rattle.line_job.specs.declared.stop.Stop.{Stop}
use Rattle.line_job.specs.declared.stop.Stop.TheVariants.{Line, NotUtf8, TooLong, ReadFault, WriteFault, NoMemory}
use Rattle.line_job.specs.Ends.{Seen, SourceState, SinkState, Took}
use Rattle.line_job.specs.Rules.{Rules, AreKept}
use Rattle.line_job.specs.Runs.{Runs, IsKept}
use Rattle.line_job.specs.Told.{result_status, status_of}

pub maps : (r0 : Option (List ℕ)) (P Q : List ℕ → Type 0) → ((bytes : List ℕ) → P bytes → Q bytes) → IfSome r0 P → IfSome r0 Q
maps None P Q f h = tt
maps (Some xs) P Q f h = f xs h

not_zero : {Why : Type 0} (stop : Stop Why) → status_of stop ≡ 0 → ⊥
not_zero (Line why) e = absurd (omega (arith, e))
not_zero (NotUtf8 line) e = absurd (omega (arith, e))
not_zero TooLong e = absurd (omega (arith, e))
not_zero ReadFault e = absurd (omega (arith, e))
not_zero WriteFault e = absurd (omega (arith, e))
not_zero NoMemory e = absurd (omega (arith, e))

-- what a success owes
abbrev Written : {Stage Why : Type 0} → Rules Stage Why → Stage → Seen SourceState → Seen SinkState → Type 0
Written rules start input output = IfSome input.before.rest (λ bytes. IsAtEnd input.after.rest × ((text : List ℕ) × IsKept rules start bytes text × Took output text))

pub success : {Stage Why : Type 0} (rules : Rules Stage Why) (start : Stage) (limit : ℕ) (input : Seen SourceState) (output : Seen SinkState) (result : Result ℕ (Stop Why)) → Runs rules start limit input output result
    → result_status result ≡ 0 → Written rules start input output
success rules start limit input output (Ok lines) runs zero = runs.kept
success rules start limit input output (Err stop) runs zero = absurd (not_zero stop zero)

-- a line that is judged, and the lines after it
pub record Judged {Stage Why : Type 0} (rules : Rules Stage Why) (before : ℕ) (stage : Stage) (lines : List (List ℕ)) (text : List ℕ) (last : Stage) : Type 0 where
  pub line : List ℕ
  pub others : List (List ℕ)
  pub first : List ℕ
  pub rest : List ℕ
  pub next : Stage
  pub lines_are : lines ≡ line ∷ others
  pub utf8 : IsUtf8 line
  pub keeps : rules.keeps stage (before + 1) line first next
  pub text_is : text ≡ first ++ rest
  pub more : AreKept rules (before + 1) next others rest last

-- where lines are judged and the input may not end, there is a next line
pub judged : {Stage Why : Type 0} (rules : Rules Stage Why) (before : ℕ) (stage : Stage) (lines : List (List ℕ)) (text tail : List ℕ) (last : Stage) → rules.judges stage ≡ true → ¬ rules.ends stage tail
    → AreKept rules before stage lines text last → rules.ends last tail → Judged rules before stage lines text last
judged {Stage = Stage} rules before stage [] text tail last judges no_end kept ends = absurd (no_end (subst (λ (s : Stage). rules.ends s tail) kept.1 ends))
judged rules before stage (line ∷ lines) text tail last judges no_end (first, rest, next, inl h, e, more) ends =
    record { line = line; others = lines; first = first; rest = rest; next = next; lines_are = refl; utf8 = h.1; keeps = h.2; text_is = e; more = more }
judged rules before stage (line ∷ lines) text tail last judges no_end (first, rest, next, inr h, e, more) ends = absurd (let no_more : rules.judges stage ≡ false = h.0 in cc)

-- where lines aren't judged, nothing is owed for them, and the job stays at its stage
pub not_judged : {Stage Why : Type 0} (rules : Rules Stage Why) (before : ℕ) (stage : Stage) (lines : List (List ℕ)) (text : List ℕ) (last : Stage) → rules.judges stage ≡ false
    → AreKept rules before stage lines text last → (text ≡ []) × (last ≡ stage)
not_judged rules before stage [] text last judges h = h
not_judged rules before stage (line ∷ lines) text last judges (first, rest, next, inl h, e, more) = absurd (let once_more : rules.judges stage ≡ true = h.0 in cc)
not_judged {Stage = Stage} rules before stage (line ∷ lines) text last judges (first, rest, next, inr (no_more, none, stays), e, more) =
    let ih = not_judged rules (before + 1) stage lines rest last judges (subst (λ (s : Stage). AreKept rules (before + 1) s lines rest last) stays more) in
    (e ∙ ap (λ (t : List ℕ). t ++ rest) none ∙ ih.0, ih.1)

-- two texts that are empty
pub nothing : (text first rest : List ℕ) → text ≡ first ++ rest → first ≡ [] → rest ≡ [] → text ≡ []
nothing text first rest e none no_more = e ∙ ap (λ (t : List ℕ). t ++ rest) none ∙ no_more

-- a text of which only the tail isn't empty
pub only_tail : (text owed tail last : List ℕ) → text ≡ owed ++ tail → owed ≡ [] → tail ≡ last → text ≡ last
only_tail text owed tail last e none is = e ∙ ap (λ (t : List ℕ). t ++ tail) none ∙ is
