-- What a job that goes line by line makes of its lines. A line stands here without its line feed.
use Rattle.std.specs.Prelude.{◌≡◌, ◌⊎◌, ◌+◌, ℕ, List, [], ◌∷◌, ◌++◌, Bool, true, false}
use Rattle.std.specs.Str.{IsUtf8}
use Rattle.line_job.specs.declared.stop.Stop.{Stop}
use Rattle.line_job.specs.declared.stop.Stop.TheVariants.{Line, NotUtf8}

-- The rules of a job, by the stage at which it stands: whether lines are judged there; which line is kept, by its number, what
-- is owed for it, and at which stage the job stands then; which line is refused, and why; what is owed last, where the
-- input may end; and why it may not end after so many lines.
pub record Rules (Stage Why : Type 0) : Type 1 where
  pub judges : Stage → Bool
  pub keeps : Stage → ℕ → List ℕ → List ℕ → Stage → Type 0
  pub refuses : Stage → ℕ → List ℕ → Why → Type 0
  pub ends : Stage → List ℕ → Type 0
  pub misses : Stage → ℕ → Why → Type 0

-- The line of this number is kept: lines are judged, it is UTF-8, and its rule keeps it; or lines are not judged any more.
abbrev pub KeepsLine : {Stage Why : Type 0} → Rules Stage Why → Stage → ℕ → List ℕ → List ℕ → Stage → Type 0
KeepsLine rules stage number line text next = ((rules.judges stage ≡ true) × IsUtf8 line × rules.keeps stage number line text next)
    ⊎ ((rules.judges stage ≡ false) × (text ≡ []) × (next ≡ stage))

-- The line of this number is refused: lines are judged, and it isn't UTF-8, or it is and its rule refuses it.
abbrev pub RefusesLine : {Stage Why : Type 0} → Rules Stage Why → Stage → ℕ → List ℕ → Stop Why → Type 0
RefusesLine {Why = Why} rules stage number line stop = (rules.judges stage ≡ true)
    × (((¬ IsUtf8 line) × (stop ≡ NotUtf8 number)) ⊎ (IsUtf8 line × ((why : Why) × rules.refuses stage number line why × (stop ≡ Line why))))

-- After so many lines these lines are kept, this is owed for them in order, and the job stands then at the last stage.
abbrev pub AreKept : {Stage Why : Type 0} → Rules Stage Why → ℕ → Stage → List (List ℕ) → List ℕ → Stage → Type 0
AreKept rules before stage [] text last = (text ≡ []) × (last ≡ stage)
AreKept {Stage = Stage} rules before stage (line ∷ lines) text last = (first : List ℕ) × (rest : List ℕ) × (next : Stage)
    × KeepsLine rules stage (before + 1) line first next × (text ≡ first ++ rest) × AreKept rules (before + 1) next lines rest last

-- After so many lines these lines are kept, whatever is owed for them.
abbrev pub WereKept : {Stage Why : Type 0} → Rules Stage Why → ℕ → Stage → List (List ℕ) → Type 0
WereKept {Stage = Stage} rules before stage lines = (text : List ℕ) × (last : Stage) × AreKept rules before stage lines text last

-- After so many lines these lines are kept, and so is the end of the input after them; this is owed for all of them, the last text with it.
abbrev pub AreAllKept : {Stage Why : Type 0} → Rules Stage Why → ℕ → Stage → List (List ℕ) → List ℕ → Type 0
AreAllKept {Stage = Stage} rules before stage lines text = (owed : List ℕ) × (tail : List ℕ) × (last : Stage)
    × AreKept rules before stage lines owed last × rules.ends last tail × (text ≡ owed ++ tail)

-- After so many lines one of these, or the end after them if the input ends there, is the first to be refused; this is owed for the lines before it.
abbrev pub AreRefused : {Stage Why : Type 0} → Rules Stage Why → Bool → ℕ → Stage → List (List ℕ) → List ℕ → Stop Why → Type 0
AreRefused {Why = Why} rules ended before stage [] text stop = (ended ≡ true) × (text ≡ []) × ((why : Why) × rules.misses stage before why × (stop ≡ Line why))
AreRefused {Stage = Stage} rules ended before stage (line ∷ lines) text stop = ((text ≡ []) × RefusesLine rules stage (before + 1) line stop)
    ⊎ ((first : List ℕ) × (rest : List ℕ) × (next : Stage) × KeepsLine rules stage (before + 1) line first next × (text ≡ first ++ rest) × AreRefused rules ended (before + 1) next lines rest stop)
