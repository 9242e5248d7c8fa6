-- The grammar of templates: which segments a source spells, or which fault is its first. Places are counted from the start of
-- the source, so each definition is handed the source's size.
use Rattle.std.specs.Prelude.{◌≡◌, ◌<◌, ◌⊎◌, ℕ, Bool, ◌&&◌, not, List, [], ◌∷◌, ◌++◌, length, drop, codes, IsTrue, Result, Ok, Err}
use Rattle.std.specs.Str.{byte}
use Rattle.std.specs.Result.{MatchResult}
use Rattle.formatx.specs.Fault.{Fault, unreadable, between}
use Rattle.formatx.specs.Words.{begins, after, is_plain}
use Rattle.formatx.specs.Placeholders.{placeholder_of}
use Rattle.formatx.specs.declared.ast.Segment.{Segment}
use Rattle.formatx.specs.declared.ast.Segment.TheVariants.{Literal, EscapedOpen, EscapedClose, Placeholder as Placed}

-- the text begins with this brace, and not with two of it
abbrev pub is_single : ℕ → List ℕ → Bool
is_single brace text = begins text brace && not (begins (drop 1 text) brace)

-- the text is the segment and then the rest: a longest run without braces, a doubled brace, or a placeholder
abbrev pub IsSegment : ℕ → Segment → List ℕ → List ℕ → Type 0
IsSegment size (Literal s) text rest = (rest ≡ after is_plain text) × (length rest < length text) × (s ≡ between size text rest)
IsSegment size EscapedOpen text rest = text ≡ codes "{{" ++ rest
IsSegment size EscapedClose text rest = text ≡ codes "}}" ++ rest
IsSegment size (Placed p) text rest = IsTrue (is_single (byte "{") text) × (placeholder_of size text ≡ Ok (p, rest))

-- the text is one spelling of each segment, end to end, and then the rest
abbrev pub SpellsTo : ℕ → List Segment → List ℕ → List ℕ → Type 0
SpellsTo size [] text rest = text ≡ rest
SpellsTo size (s ∷ ss) text rest = (next : List ℕ) × IsSegment size s text next × SpellsTo size ss next rest

-- the source is a template of these segments
abbrev pub Spells : List ℕ → List Segment → Type 0
Spells source segments = SpellsTo (length source) segments source []

-- the text begins with a fault: a `}` that stands alone, or one in a placeholder
abbrev pub BeginsWithFault : ℕ → List ℕ → Fault → Type 0
BeginsWithFault size text fault =
    (IsTrue (is_single (byte "}") text) × (fault ≡ unreadable (between size text (drop 1 text)) (codes "unmatched `}`")))
    ⊎ (IsTrue (is_single (byte "{") text) × (placeholder_of size text ≡ Err fault))

-- the first fault of a source: it begins where some segments, which spell the front, end
abbrev pub HasFault : List ℕ → Fault → Type 0
HasFault source fault =
    (segments : List Segment) × (rest : List ℕ) × SpellsTo (length source) segments source rest × BeginsWithFault (length source) rest fault

-- the source is a template of some segments
abbrev pub IsTemplate : List ℕ → Type 0
IsTemplate source = (segments : List Segment) × Spells source segments

-- what reading a source gives: its segments, or its first fault
abbrev pub Reads : List ℕ → Result (List Segment) Fault → Type 0
Reads source r = MatchResult r (Spells source) (HasFault source)
