-- How a text is cut by one step.
use Rattle.std.specs.Prelude.{◌≡◌, ◌<◌, ℕ, List, [], ◌∷◌, ◌++◌, length, slice_index}
use Rattle.std.specs.Str.{byte}
use Rattle.strfmt.specs.declared.cause.Cause.{Cause}
use Rattle.strfmt.specs.declared.cutting.Brace.{Brace}
use Rattle.strfmt.specs.declared.cutting.Brace.TheVariants.{Open, Close}
use Rattle.strfmt.specs.declared.cutting.Next.{Next}
use Rattle.strfmt.specs.declared.cutting.Next.TheVariants.{End, Escape, Pattern, Wrong}
use Rattle.strfmt.specs.Grammar.{IsBrace, HasNoBrace, Break, BeginsWith, BeginsWithPattern, cause_of}

-- It is empty, or a brace stands in front.
abbrev pub BeginsWithBrace : List ℕ → Type 0
BeginsWithBrace text = 0 < length text → IsBrace (slice_index text 0)

-- The text is a longest front without braces and a rest.
pub record IsPlainFront (text front rest : List ℕ) : Type 0 where
  pub whole : text ≡ front ++ rest
  pub plain : HasNoBrace front
  pub longest : BeginsWithBrace rest

-- The break of this cause stands in front.
abbrev pub StopsBy : Cause → List ℕ → Type 0
StopsBy cause text = (break : Break) × BeginsWith break text × (cause_of break ≡ cause)

-- The byte of a brace.
abbrev pub brace_byte : Brace → ℕ
brace_byte Open = byte "{"
brace_byte Close = byte "}"

-- What stands at the front of a text: nothing, a doubled brace, a pattern, or a wrong brace with its cause.
abbrev pub IsNext : List ℕ → Next → Type 0
IsNext text End = text ≡ []
IsNext text (Escape brace rest) = text ≡ brace_byte brace ∷ brace_byte brace ∷ rest.now
IsNext text (Pattern inner rest) = BeginsWithPattern inner.now text rest.now
IsNext text (Wrong cause) = StopsBy cause text
