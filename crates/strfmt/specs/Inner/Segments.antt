-- How the segments of the code stand for the pieces of a text, and what filling them does.
use Rattle.std.specs.Prelude.{◌≡◌, ◌⊎◌, ◌<◌, ℕ, List, [], ◌∷◌, ◌++◌, map, length, Option, Result, Ok, Err, option_map}
use Rattle.std.specs.Borrow.{MutBor}
use Rattle.std.specs.Fn.{Mut, CalledAtMut}
use Rattle.strfmt.specs.declared.cause.Cause.{Cause}
use Rattle.strfmt.specs.declared.types.FmtError.{FmtError}
use Rattle.strfmt.specs.declared.types.FmtError.TheVariants.{NoMemory}
use Rattle.strfmt.specs.declared.template.Segment.{Segment}
use Rattle.strfmt.specs.declared.template.Segment.TheVariants.{Plain, Escape, Pattern}
use Rattle.strfmt.specs.declared.template.Found.{Found}
use Rattle.strfmt.specs.declared.template.Found.TheVariants as Of
use Rattle.strfmt.specs.Spec.{View}
use Rattle.strfmt.specs.Grammar.Pattern.{IsRead}
use Rattle.strfmt.specs.Grammar.{Piece, ordinary, escape, pattern, Break, cause_of, IsPiece, IsCut}
use Rattle.strfmt.specs.Inner.Cutting.{IsPlainFront, StopsBy, brace_byte}
use Rattle.strfmt.specs.Walk.{Walked, Walks}

-- The pieces that a segment stands for.
abbrev pub pieces_of : Segment → List Piece
pieces_of (Plain plain) = map ordinary plain.now
pieces_of (Escape brace) = escape (brace_byte brace) ∷ []
pieces_of (Pattern view) = pattern view ∷ []

-- The same of all segments.
abbrev pub all_pieces : List Segment → List Piece
all_pieces [] = []
all_pieces (segment ∷ segments) = pieces_of segment ++ all_pieces segments

-- The segment stands in front of the rest of a text.
abbrev pub IsFront : Segment → List ℕ → List ℕ → Type 0
IsFront (Plain plain) text rest = IsPlainFront text plain.now rest × (0 < length plain.now)
IsFront (Escape brace) text rest = text ≡ brace_byte brace ∷ brace_byte brace ∷ rest
IsFront (Pattern view) text rest = IsPiece (pattern view) text rest

-- What is found in front of a text.
abbrev pub IsFound : List ℕ → Found → Type 0
IsFound text (Of.Segment segment rest) = IsFront segment text rest.now
IsFound text Of.End = text ≡ []
IsFound text (Of.Wrong cause) = StopsBy cause text

-- What is found where a pattern stands.
abbrev pub IsFoundPattern : List ℕ → List ℕ → Found → Type 0
IsFoundPattern inner after (Of.Segment segment rest) = (view : View) × (segment ≡ Pattern view) × IsRead inner (Ok view) × (rest.now ≡ after)
IsFoundPattern inner after Of.End = ⊥
IsFoundPattern inner after (Of.Wrong cause) = IsRead inner (Err cause)

-- The segments and the fault are those of a text.
abbrev pub IsMade : List Segment → Option Cause → List ℕ → Type 0
IsMade segments fault text = (stop : Option Break) × (option_map cause_of stop ≡ fault) × IsCut (all_pieces segments) stop text

-- The new text is the old one with this text at its end.
abbrev pub Grows : List ℕ → List ℕ → Type 0
Grows old new = (added : List ℕ) × (new ≡ old ++ added)

module _ {F : Type 0} (g : Mut F (MutBor View × Unit {0}) (Result (Unit {0}) FmtError × (MutBor View × Unit {0}))) where
  -- A pattern is filled by a call.
  abbrev pub FillsPattern : F → View → List ℕ → Result (Unit {0}) FmtError → List ℕ → F → Type 0
  FillsPattern f view old (Ok done) new f' = (left : View) × CalledAtMut g f (record view { text = [] }) (Ok tt) f' left × (new ≡ old ++ left.text)
  FillsPattern f view old (Err error) new f' = (new ≡ old) × ((error ≡ NoMemory) ⊎ ((left : View) × CalledAtMut g f (record view { text = [] }) (Err error) f' left))

  -- A segment is filled.
  abbrev pub FillsOne : F → Segment → List ℕ → Result (Unit {0}) FmtError → List ℕ → F → Type 0
  FillsOne f (Plain plain) old (Ok done) new f' = (new ≡ old ++ plain.now) × (f' ≡ f)
  FillsOne f (Plain plain) old (Err error) new f' = (new ≡ old) × (error ≡ NoMemory)
  FillsOne f (Escape brace) old (Ok done) new f' = (new ≡ old ++ brace_byte brace ∷ []) × (f' ≡ f)
  FillsOne f (Escape brace) old (Err error) new f' = (new ≡ old) × (error ≡ NoMemory)
  FillsOne f (Pattern view) old result new f' = FillsPattern f view old result new f'

  -- A walk over the pieces that the segments stand for.
  abbrev pub WalksOver : F → List Segment → Option Cause → Walked → F → Type 0
  WalksOver f segments fault answer last = (stop : Option Break) → option_map cause_of stop ≡ fault → Walks g f (all_pieces segments) stop answer last

  -- All segments are filled, and then the fault is told.
  abbrev pub FillsAll : F → List Segment → Option Cause → List ℕ → Result (Unit {0}) FmtError → List ℕ → F → Type 0
  FillsAll f segments fault old (Ok done) new last = (text : List ℕ) × (new ≡ old ++ text) × WalksOver f segments fault (Ok text) last
  FillsAll f segments fault old (Err error) new last = Grows old new × ((error ≡ NoMemory) ⊎ WalksOver f segments fault (Err error) last)
