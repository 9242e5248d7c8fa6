-- What follows from rules that are clear.
use Rattle.std.specs.Prelude.{◌≡◌, ℕ, List, [], ◌++◌, Bool, true}
use Rattle.line_job.specs.declared.stop.Stop.{Stop}
use Rattle.line_job.specs.Rules.{Rules, AreKept, AreAllKept, AreRefused}

-- The rules are clear: of a line one text is owed and one stage comes next, or it is refused for one cause, and never both; so it is with the end.
pub record AreClear {Stage Why : Type 0} (rules : Rules Stage Why) : Type 0 where
  pub one_text : (stage : Stage) (number : ℕ) (line a b : List ℕ) (s t : Stage) → rules.keeps stage number line a s → rules.keeps stage number line b t → (a ≡ b) × (s ≡ t)
  pub one_cause : (stage : Stage) (number : ℕ) (line : List ℕ) (why other : Why) → rules.refuses stage number line why → rules.refuses stage number line other → why ≡ other
  pub never_both : (stage : Stage) (number : ℕ) (line a : List ℕ) (next : Stage) (why : Why) → rules.keeps stage number line a next → ¬ rules.refuses stage number line why
  pub one_end : (stage : Stage) (a b : List ℕ) → rules.ends stage a → rules.ends stage b → a ≡ b
  pub one_lack : (stage : Stage) (before : ℕ) (why other : Why) → rules.misses stage before why → rules.misses stage before other → why ≡ other
  pub no_end_is_missed : (stage : Stage) (before : ℕ) (a : List ℕ) (why : Why) → rules.ends stage a → ¬ rules.misses stage before why

-- Lines have one answer: one text where they are kept, one text and one cause where they are refused, and never both.
pub record HasOneAnswer {Stage Why : Type 0} (rules : Rules Stage Why) : Type 0 where
  pub one_text : (start : Stage) (lines : List (List ℕ)) (a b : List ℕ) → AreAllKept rules 0 start lines a → AreAllKept rules 0 start lines b → a ≡ b
  pub one_refusal : (ended : Bool) (start : Stage) (lines : List (List ℕ)) (a b : List ℕ) (stop other : Stop Why)
      → AreRefused rules ended 0 start lines a stop → AreRefused rules ended 0 start lines b other → (a ≡ b) × (stop ≡ other)
  pub never_both : (ended : Bool) (start : Stage) (lines : List (List ℕ)) (a b : List ℕ) (stop : Stop Why) → AreAllKept rules 0 start lines a → ¬ AreRefused rules ended 0 start lines b stop

-- The stage is one of rows: they are judged, each alike wherever it stands, the job stays at the stage, and nothing is owed at the end.
pub record IsOfRows {Stage Why : Type 0} (rules : Rules Stage Why) (stage : Stage) : Type 0 where
  pub judged : rules.judges stage ≡ true
  pub stays : (number : ℕ) (row text : List ℕ) (next : Stage) → rules.keeps stage number row text next → next ≡ stage
  pub alike : (number other : ℕ) (row text : List ℕ) (next : Stage) → rules.keeps stage number row text next → rules.keeps stage other row text next
  pub owes_no_more : (text : List ℕ) → rules.ends stage text → text ≡ []
  pub may_end : rules.ends stage []

-- One run over all rows gives what two runs give, one after the other.
pub record SplitsAt {Stage Why : Type 0} (rules : Rules Stage Why) (start : Stage) (headers rows others : List (List ℕ)) : Type 0 where
  pub joined : (a b : List ℕ) → AreAllKept rules 0 start (headers ++ rows) a → AreAllKept rules 0 start (headers ++ others) b → AreAllKept rules 0 start (headers ++ (rows ++ others)) (a ++ b)
  pub parted : (text : List ℕ) → AreAllKept rules 0 start (headers ++ (rows ++ others)) text
      → (a : List ℕ) × (b : List ℕ) × AreAllKept rules 0 start (headers ++ rows) a × AreAllKept rules 0 start (headers ++ others) b × (text ≡ a ++ b)

-- Rows are independent: where headers lead to a stage of rows and owe nothing, the text of all rows is that of the first of them under
-- these headers and then that of the others under them.
abbrev pub Splits : {Stage Why : Type 0} → Rules Stage Why → Type 0
Splits {Stage = Stage} rules = (start rows_next : Stage) (headers rows others : List (List ℕ)) → AreKept rules 0 start headers [] rows_next → IsOfRows rules rows_next
    → SplitsAt rules start headers rows others
