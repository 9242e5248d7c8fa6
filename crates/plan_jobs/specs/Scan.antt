-- The rules of the command that scans: each line's tokens are written, with tabs between them.
use Rattle.std.specs.Prelude.{◌≡◌, ℕ, List, [], ◌∷◌, ◌++◌, true, map, All}
use Rattle.std.specs.Str.{byte, chars, IsUtf8}
use Rattle.whiteread.specs.Lines.{line_feed}
use Rattle.scan_fmt.specs.Scanned.{ScannedTexts}
use Rattle.line_job.specs.Rules.{Rules}
use Rattle.header_lines.specs.declared.cause.LineCause.{LineCause}

-- The job stands at its format, at every line.
pub record ScanStage : Type 0 where
  pub format : List ℕ

-- Texts with tabs between them.
abbrev pub tab_joined : List (List ℕ) → List ℕ
tab_joined [] = []
tab_joined (text ∷ []) = text
tab_joined (text ∷ other ∷ texts) = text ++ byte "\t" ∷ tab_joined (other ∷ texts)

-- These are the tokens of the format over the line.
pub record AreTokens (format line : List ℕ) (tokens : List (List ℕ)) : Type 0 where
  pub utf8 : All IsUtf8 tokens
  pub scanned : ScannedTexts (chars line) (chars format) (map chars tokens)

-- A line is kept, and its tokens and a line feed are owed.
abbrev pub Keeps : ScanStage → ℕ → List ℕ → List ℕ → ScanStage → Type 0
Keeps stage number line text next = ((tokens : List (List ℕ)) × AreTokens stage.format line tokens × (text ≡ tab_joined tokens ++ line_feed ∷ [])) × (next ≡ stage)

-- The rules of the command: no line is refused, and the input may end anywhere.
abbrev pub scan_rules : Rules ScanStage LineCause
scan_rules = record { judges = λ stage. true; keeps = Keeps; refuses = λ stage number line why. ⊥; ends = λ stage text. text ≡ []; misses = λ stage before why. ⊥ }
