-- What a field's digits and name stand for, where an expression and `{e}` are fields too.
use Rattle.std.specs.Prelude.{◌≡◌, ℕ, Bool, if◌then◌else◌, List, [], ◌∷◌, ◌++◌, codes, Option, IsSome, ⊤}
use Rattle.std.specs.Str.{byte}
use Rattle.std.specs.Str.Parse.{AllDigits}
use Rattle.scan_fmt.specs.Expressions.{IsDelimited, expression}
use Rattle.scan_fmt.specs.Sets.{IsListing}
use Rattle.scan_fmt.specs.Grammar.{Until, Solid, Among, Notation, Decimal, Hexadecimal, Float, Shape, Characters, Number, Directive, Field, Expression, AtEnd, star, first, limit_of, Spells}

-- a caret inverts a set
abbrev pub caret : Bool → List ℕ
caret inverted = if inverted then codes "^" else []

-- the letter of a number's field
abbrev pub letter : Notation → ℕ
letter Decimal = byte "d"
letter Hexadecimal = byte "x"
letter Float = byte "f"

-- no directive stands in front
abbrev pub NoDirective : List ℕ → Type 0
NoDirective format = (d : Directive) (rest : List ℕ) → Spells d format rest → ⊥

-- what a field asks for: something of a shape, what a pattern finds, or that the input has ended
pub data Content : Type 0 where
  Shaped : Shape → Content
  Finds : List ℕ → Content
  Ends : Content

-- the text is the field's letter, set or pattern, the closing brace, and then the rest; only numbers have a limit
abbrev pub Names : Content → Option ℕ → List ℕ → List ℕ → Type 0
Names (Shaped (Characters (Until stop))) limit text rest = ⊥
Names (Shaped (Characters Solid)) limit text rest = text ≡ codes "s}" ++ rest
Names (Shaped (Characters (Among inverted listing))) limit text rest = (text ≡ byte "[" ∷ (caret inverted ++ (listing ++ (codes "]}" ++ rest)))) × IsListing inverted listing
Names (Shaped (Number notation own)) limit text rest = (text ≡ letter notation ∷ byte "}" ∷ rest) × (own ≡ limit)
Names (Finds pattern) limit text rest = (text ≡ byte "/" ∷ (pattern ++ (codes "/}" ++ rest))) × IsDelimited pattern
Names Ends limit text rest = text ≡ codes "e}" ++ rest

-- digits and a name
pub record IsNamed (s : Content) (text rest : List ℕ) : Type 0 where
  pub ds : List ℕ
  pub name : List ℕ
  pub whole : text ≡ ds ++ name
  pub digits : AllDigits 10 ds
  pub named : Names s (limit_of ds) name rest

-- what stands in a field's braces after its star: the brace alone, or digits and a name
pub data SpellsBody (s : Content) (text rest : List ℕ) : Type 0 where
  alone : (stop : Option ℕ) → s ≡ Shaped (Characters (Until stop)) → text ≡ byte "}" ∷ rest → stop ≡ first rest → SpellsBody s text rest
  named : IsNamed s text rest → SpellsBody s text rest

-- the directive of a field
abbrev pub field_of : Bool → Content → Directive
field_of stored (Shaped shape) = Field stored shape
field_of stored (Finds pattern) = Expression stored pattern
field_of stored Ends = AtEnd

-- a pattern is one that `regex` reads
abbrev pub IsReadable : Content → Type 0
IsReadable (Shaped shape) = ⊤
IsReadable (Finds pattern) = IsSome (expression pattern)
IsReadable Ends = ⊤

-- after the opening brace the text spells a field
abbrev pub SpellsField : Bool → Content → List ℕ → List ℕ → Type 0
SpellsField stored s text rest = (body : List ℕ) × (text ≡ star stored ++ body) × SpellsBody s body rest
