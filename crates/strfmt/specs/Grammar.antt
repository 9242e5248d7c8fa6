-- How a text is cut. The braces are ASCII, so no byte of another character is one.
pub mod Parts
pub mod Pattern
use Rattle.std.specs.Prelude.{◌≡◌, ◌≢◌, ◌⊎◌, ℕ, List, [], ◌∷◌, ◌++◌, ⊤, Option, Some, None, Ok, Err, slice_index}
use Rattle.std.specs.Str.{byte}
use Rattle.strfmt.specs.declared.cause.Cause.{Cause}
use Rattle.strfmt.specs.declared.cause.Cause.TheVariants.{LoneBrace, NestedBrace, NoClosingBrace}
use Rattle.strfmt.specs.Spec.{View}
use Rattle.strfmt.specs.Grammar.Pattern.{IsRead}

-- A piece is a byte of an ordinary character, a doubled brace, or a pattern that reads as a formatter.
pub data Piece : Type 0 where
  ordinary : ℕ → Piece
  escape : ℕ → Piece
  pattern : View → Piece

-- The byte is a brace.
abbrev pub IsBrace : ℕ → Type 0
IsBrace b = (b ≡ byte "{") ⊎ (b ≡ byte "}")

-- The byte is no brace.
abbrev pub IsNoBrace : ℕ → Type 0
IsNoBrace b = (b ≢ byte "{") × (b ≢ byte "}")

-- No byte is a brace.
abbrev pub HasNoBrace : List ℕ → Type 0
HasNoBrace [] = ⊤
HasNoBrace (b ∷ bs) = IsNoBrace b × HasNoBrace bs

-- The text has this pattern in its braces in front of the rest.
abbrev pub BeginsWithPattern : List ℕ → List ℕ → List ℕ → Type 0
BeginsWithPattern inner text rest = HasNoBrace inner × (text ≡ byte "{" ∷ inner ++ byte "}" ∷ rest)

-- The piece stands in front of the rest of a text.
abbrev pub IsPiece : Piece → List ℕ → List ℕ → Type 0
IsPiece (ordinary b) text rest = IsNoBrace b × (text ≡ b ∷ rest)
IsPiece (escape b) text rest = IsBrace b × (text ≡ b ∷ b ∷ rest)
IsPiece (pattern view) text rest = (inner : List ℕ) × BeginsWithPattern inner text rest × IsRead inner (Ok view)

-- Pieces stop at a closing brace that stands alone, at a second opening brace in a pattern, at a pattern without an end, or at one that is refused.
pub data Break : Type 0 where
  lone : Break
  nested : Break
  unclosed : Break
  refused : Cause → Break

-- The break stands in front of a text.
abbrev pub BeginsWith : Break → List ℕ → Type 0
BeginsWith lone text = (rest : List ℕ) × (text ≡ byte "}" ∷ rest) × (slice_index rest 0 ≢ byte "}")
BeginsWith nested text = (inner rest : List ℕ) × HasNoBrace inner × (inner ≢ []) × (text ≡ byte "{" ∷ inner ++ byte "{" ∷ rest)
BeginsWith unclosed text = (inner : List ℕ) × HasNoBrace inner × (text ≡ byte "{" ∷ inner)
BeginsWith (refused cause) text = (inner rest : List ℕ) × BeginsWithPattern inner text rest × IsRead inner (Err cause)

-- Each break has its cause.
abbrev pub cause_of : Break → Cause
cause_of lone = LoneBrace
cause_of nested = NestedBrace
cause_of unclosed = NoClosingBrace
cause_of (refused cause) = cause

-- The text is these pieces end to end, and then it ends or a break stands there.
abbrev pub IsCut : List Piece → Option Break → List ℕ → Type 0
IsCut [] None text = text ≡ []
IsCut [] (Some break) text = BeginsWith break text
IsCut (piece ∷ pieces) stop text = (rest : List ℕ) × IsPiece piece text rest × IsCut pieces stop rest
