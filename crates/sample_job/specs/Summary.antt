-- The summary of a sample.
use Rattle.std.specs.Prelude.{◌≡◌, ℕ, List, ◌++◌, length, sum, codes, decimal}
use Rattle.sample.specs.Sample.{sample_bytes}
use Rattle.rewriting.specs.Rewritten.{IsRewritten}

-- The line that says how many rows and bytes a sample has, how many bytes were written for it, and their sum.
abbrev pub summary : ℕ → List ℕ → List ℕ
summary n text = codes "rows " ++ (decimal n ++ (codes " in " ++ (decimal (length (sample_bytes n)) ++ (codes " out " ++ (decimal (length text) ++ (codes " sum " ++ (decimal (sum text) ++ codes "\n")))))))

-- The line is the summary of what is written for a sample of n rows.
abbrev pub IsSummary : ℕ → List ℕ → Type 0
IsSummary n line = (text : List ℕ) × IsRewritten (sample_bytes n) text × (line ≡ summary n text)
