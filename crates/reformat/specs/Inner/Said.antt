-- What the words of the program say.
use Rattle.std.specs.Prelude.{◌≡◌, ◌≤◌, ℕ, List}
use Rattle.line_job.specs.Ends.{Seen, SourceState, SinkState}
use Rattle.line_job.specs.Told.{RunsTold}
use Rattle.header_lines.specs.Heading.{first_next}
use Rattle.header_lines.specs.Message.{cause_message}
use Rattle.plan_jobs.specs.Plan.{plan_rules, heading_next as plan_heading}
use Rattle.plan_jobs.specs.Scan.{scan_rules}
use Rattle.plan_jobs.specs.Translate.{translate_rules, heading_next as translate_heading}
use Rattle.plan_jobs.specs.TranslateMessage.{translate_message}
use Rattle.sample_job.specs.Samples.{Samples}
use Rattle.reformat.specs.declared.command.Command.{Command}
use Rattle.reformat.specs.declared.command.Command.TheVariants.{Rewrite, Plan, Scan, Translate, Sample}
use Rattle.rewriting.specs.Rules.{rewrite_rules, heading_next}
use Rattle.reformat.specs.Run.{rewrite_words, plan_words, scan_words, translate_words, sample_words, sample_limit, input_limit}

-- the words say the command
abbrev pub IsSaid : List (List ℕ) → Command → Type 0
IsSaid words Rewrite = words ≡ rewrite_words
IsSaid words Plan = words ≡ plan_words
IsSaid words (Scan format) = words ≡ scan_words format.now
IsSaid words (Translate target) = words ≡ translate_words target
IsSaid words (Sample n) = (n ≤ sample_limit) × (words ≡ sample_words n)

-- a sample of the command has no more rows than the limit
abbrev pub IsWithin : Command → Type 0
IsWithin Rewrite = Unit {0}
IsWithin Plan = Unit {0}
IsWithin (Scan format) = Unit {0}
IsWithin (Translate target) = Unit {0}
IsWithin (Sample n) = n ≤ sample_limit

-- the command was done, with this status
abbrev pub Does : Command → Seen SourceState → Seen SinkState → Seen SinkState → ℕ → Type 0
Does Rewrite input output errors status = RunsTold rewrite_rules (heading_next first_next) cause_message input_limit input output errors status
Does Plan input output errors status = RunsTold plan_rules (plan_heading first_next) cause_message input_limit input output errors status
Does (Scan format) input output errors status = RunsTold scan_rules (record { format = format.now }) cause_message input_limit input output errors status
Does (Translate target) input output errors status = RunsTold translate_rules (translate_heading target first_next) translate_message input_limit input output errors status
Does (Sample n) input output errors status = Samples n output errors status

-- a command over a sample leaves the input as it was
abbrev pub Leaves : {S : Type 0} → Command → S → S → Type 0
Leaves Rewrite old new = Unit {0}
Leaves Plan old new = Unit {0}
Leaves (Scan format) old new = Unit {0}
Leaves (Translate target) old new = Unit {0}
Leaves (Sample n) old new = new ≡ old
