-- What the command that translates tells of a refused line.
use Rattle.std.specs.Prelude.{◌≡◌, ◌<◌, ◌^◌, ◌++◌, ℕ, List, codes, decimal}
use Rattle.line_job.specs.declared.stop.Stop.{Stop}
use Rattle.line_job.specs.declared.stop.Stop.TheVariants.{Line, NotUtf8}
use Rattle.line_job.specs.Told.{line_message, stop_message}
use Rattle.plan_jobs.specs.declared.cause.TranslateCause.{TranslateCause}
use Rattle.plan_jobs.specs.declared.cause.TranslateCause.TheVariants.{Header, SourceFormat, Element}

-- The message of each cause.
abbrev pub translate_message : TranslateCause → List ℕ
translate_message (Header line) = line_message line (codes "bad header")
translate_message (SourceFormat line) = line_message line (codes "not a printf format")
translate_message (Element line place) = line_message line (codes "element " ++ (decimal place ++ codes ": no translation"))

-- The line that a refusal names, and 0 where it names none.
abbrev pub line_of : Stop TranslateCause → ℕ
line_of (Line (Header line)) = line
line_of (Line (SourceFormat line)) = line
line_of (Line (Element line place)) = line
line_of (NotUtf8 line) = line
line_of _ = 0

-- The place of the element that a refusal names, and 0 where it names none.
abbrev pub place_of : Stop TranslateCause → ℕ
place_of (Line (Element line place)) = place
place_of _ = 0

-- The numbers that a refusal names are below 2^64.
pub record NamesSmall (stop : Stop TranslateCause) : Type 0 where
  pub line : line_of stop < 2 ^ 64
  pub place : place_of stop < 2 ^ 64

-- Two different refusals never have the same message.
abbrev pub MessagesDiffer : Type 0
MessagesDiffer = (a b : Stop TranslateCause) → NamesSmall a → NamesSmall b → stop_message translate_message a ≡ stop_message translate_message b → a ≡ b
