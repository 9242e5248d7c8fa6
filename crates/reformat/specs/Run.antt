-- The words of the program, and the limit of its commands.
use Rattle.std.specs.Prelude.{◌≡◌, ◌≤◌, ◌⊎◌, ℕ, List, [], ◌∷◌, codes, decimal}
use Rattle.translation.specs.declared.target.Target.{Target}
use Rattle.translation.specs.declared.target.Target.TheVariants.{Strfmt, Formatx}

-- The words of the command that rewrites.
abbrev pub rewrite_words : List (List ℕ)
rewrite_words = codes "rewrite" ∷ []

-- The words of the command that plans.
abbrev pub plan_words : List (List ℕ)
plan_words = codes "plan" ∷ []

-- The words of the command that scans by a format.
abbrev pub scan_words : List ℕ → List (List ℕ)
scan_words format = codes "scan" ∷ format ∷ []

-- The word of a target.
abbrev pub target_word : Target → List ℕ
target_word Strfmt = codes "strfmt"
target_word Formatx = codes "formatx"

-- The words of the command that translates to a target.
abbrev pub translate_words : Target → List (List ℕ)
translate_words target = codes "translate" ∷ target_word target ∷ []

-- The words of the command over a sample of n rows, whose number has no sign and no zero in front.
abbrev pub sample_words : ℕ → List (List ℕ)
sample_words n = codes "sample" ∷ decimal n ∷ []

-- How many rows a sample has at most.
abbrev pub sample_limit : ℕ
sample_limit = 1000000

-- The words are those of a command.
abbrev pub IsCommand : List (List ℕ) → Type 0
IsCommand words = (words ≡ rewrite_words)
    ⊎ ((words ≡ plan_words)
    ⊎ (((format : List ℕ) × (words ≡ scan_words format))
    ⊎ (((target : Target) × (words ≡ translate_words target))
    ⊎ ((n : ℕ) × (n ≤ sample_limit) × (words ≡ sample_words n)))))

-- The usage line.
abbrev pub usage : List ℕ
usage = codes "usage: reformat rewrite | plan | scan FORMAT | translate strfmt|formatx | sample N\n"

-- How many bytes of input a command takes at most.
abbrev pub input_limit : ℕ
input_limit = 268435456
