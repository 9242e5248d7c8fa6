-- A format is cut into directives: characters that the input must have, fields that take from it, and the demand that it has ended.
use Rattle.std.specs.Prelude.{◌≡◌, ◌≢◌, ℕ, ◌^◌, ◌||◌, ◌==◌, ◌⊎◌, nat_lt, Bool, if◌then◌else◌, List, [], ◌∷◌, ◌++◌, codes, Option, None, Some, IsSome}
use Rattle.std.specs.Str.{byte}
use Rattle.std.specs.Str.Parse.{AllDigits, digits_value}
use Rattle.scan_fmt.specs.Expressions.{IsDelimited, expression}
use Rattle.scan_fmt.specs.Sets.{IsListing}

-- scanner white space: space, tab, line feed, carriage return
abbrev pub is_blank : ℕ → Bool
is_blank c = (c == byte " ") || ((c == byte "\t") || ((c == byte "\n") || (c == byte "\r")))

-- the text after the white space in front
abbrev pub after_blanks : List ℕ → List ℕ
after_blanks [] = []
after_blanks (c ∷ cs) = if is_blank c then after_blanks cs else (c ∷ cs)

-- the character in front, if there is one
abbrev pub first : List ℕ → Option ℕ
first [] = None
first (c ∷ cs) = Some c

-- the characters that a run may have: all but white space and the one that stops it, all but white space, or those of a set (inverted or not, and its listing)
pub data Run : Type 0 where
  Until : Option ℕ → Run
  Solid : Run
  Among : Bool → List ℕ → Run

-- how a number is written
pub data Notation : Type 0 where
  Decimal Hexadecimal Float : Notation

-- what a field takes: a run of characters, or a number and the limit on its length
pub data Shape : Type 0 where
  Characters : Run → Shape
  Number : Notation → Option ℕ → Shape

-- a character that the input must have, a field and whether its token is stored, the same of an expression with this pattern, or the demand that the input has ended
pub data Directive : Type 0 where
  Exactly : ℕ → Directive
  Field : Bool → Shape → Directive
  Expression : Bool → List ℕ → Directive
  AtEnd : Directive

-- a star keeps the token from being stored
abbrev pub star : Bool → List ℕ
star stored = if stored then [] else codes "*"

-- the limit that these digits give: none of them, 0 and what no usize holds are no limit
abbrev pub limit_of : List ℕ → Option ℕ
limit_of ds = if digits_value 10 ds == 0 then None else (if nat_lt (digits_value 10 ds) (2 ^ 64) then Some (digits_value 10 ds) else None)

-- the text is digits, which give the limit, and then the name
abbrev pub Limits : Option ℕ → List ℕ → List ℕ → Type 0
Limits limit name text = (ds : List ℕ) × (text ≡ ds ++ name) × AllDigits 10 ds × (limit ≡ limit_of ds)

-- what stands in a field's braces after its star, and then the rest: nothing, and the character after the brace stops the run, whichever it is; or digits and a letter or a set, which a caret inverts, and the digits limit a number alone
abbrev pub SpellsShape : Shape → List ℕ → List ℕ → Type 0
SpellsShape (Characters (Until stop)) text rest = (text ≡ byte "}" ∷ rest) × (stop ≡ first rest)
SpellsShape (Characters Solid) text rest = (any : Option ℕ) × Limits any (codes "s}" ++ rest) text
SpellsShape (Characters (Among inverted listing)) text rest = (any : Option ℕ) × Limits any (byte "[" ∷ ((if inverted then codes "^" else []) ++ (listing ++ (codes "]}" ++ rest)))) text × IsListing inverted listing
SpellsShape (Number Decimal limit) text rest = Limits limit (codes "d}" ++ rest) text
SpellsShape (Number Hexadecimal limit) text rest = Limits limit (codes "x}" ++ rest) text
SpellsShape (Number Float limit) text rest = Limits limit (codes "f}" ++ rest) text

-- the format spells the directive and then the rest: a character but a brace stands for itself, `{{` for an opening brace, `}` and any character for that one; an expression has its pattern between slashes, and `regex` reads it; digits change nothing at an expression, and neither they nor a star at `{e}`
abbrev pub Spells : Directive → List ℕ → List ℕ → Type 0
Spells (Exactly c) format rest = ((format ≡ c ∷ rest) × (c ≢ byte "{") × (c ≢ byte "}")) ⊎ (((format ≡ codes "{{" ++ rest) × (c ≡ byte "{")) ⊎ (format ≡ byte "}" ∷ c ∷ rest))
Spells (Field stored shape) format rest = (text : List ℕ) × (format ≡ byte "{" ∷ (star stored ++ text)) × SpellsShape shape text rest
Spells (Expression stored pattern) format rest = (text : List ℕ) × (format ≡ byte "{" ∷ (star stored ++ text)) × (any : Option ℕ) × Limits any (byte "/" ∷ (pattern ++ (codes "/}" ++ rest))) text × IsDelimited pattern × IsSome (expression pattern)
Spells AtEnd format rest = (text : List ℕ) × (starred : Bool) × (any : Option ℕ) × (format ≡ byte "{" ∷ (star starred ++ text)) × Limits any (codes "e}" ++ rest) text

-- the format is these directives, each after white space, up to where none stands in front: the format has ended, it is a lone `}`, or its field is malformed or of a pattern that `regex` doesn't read
abbrev pub Cuts : List ℕ → List Directive → Type 0
Cuts format [] = (d : Directive) (rest : List ℕ) → Spells d (after_blanks format) rest → ⊥
Cuts format (d ∷ ds) = (rest : List ℕ) × Spells d (after_blanks format) rest × Cuts rest ds
