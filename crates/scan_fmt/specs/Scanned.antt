-- The tokens that a format takes from an input: each field takes the longest front of its shape.
use Rattle.std.specs.Prelude.{◌≡◌, ◌≢◌, ℕ, ◌<◌, ◌≤◌, ◌==◌, ◌&&◌, ◌⊎◌, not, false, if◌then◌else◌, List, [], ◌∷◌, ◌++◌, length, drop, map, slice_index, slice_range, encode_utf8_all, Option, None, Some, IfSome, Result, Ok, Err, ⊤}
use Rattle.std.specs.Bool.{then_some}
use Rattle.std.specs.List.{AllByRecursion, cons_option}
use Rattle.std.specs.Result.{result_map_both}
use Rattle.std.specs.Char.{digit_value}
use Rattle.std.specs.Str.{byte, chars}
use Rattle.std.specs.Str.Parse.{AllDigits, without_leading_plus}
use Rattle.regex.specs.Patterns.{Match}
use Rattle.scan_fmt.specs.Expressions.{token_span, found_in}
use Rattle.scan_fmt.specs.Sets.{is_listed}
use Rattle.scan_fmt.specs.Grammar.{is_blank, after_blanks, Run, Until, Solid, Among, Notation, Decimal, Hexadecimal, Float, Shape, Characters, Number, Directive, Exactly, Field, Expression, AtEnd, Cuts}

-- one sign or none, then digits
abbrev pub IsSigned : List ℕ → Type 0
IsSigned [] = ⊤
IsSigned (c ∷ cs) = ((c ≡ byte "+") ⊎ ((c ≡ byte "-") ⊎ (digit_value c < 10))) × AllDigits 10 cs

-- nothing, or this character and then such a text
abbrev pub Optionally : ℕ → (List ℕ → Type 0) → List ℕ → Type 0
Optionally c P [] = ⊤
Optionally c P (x ∷ xs) = (x ≡ c) × P xs

-- a number that is written so: a decimal one; a `0` or none, an `x` or none, then hexadecimal digits; or a decimal number, then a point and digits, or neither, then an `e` and another decimal number, or neither
abbrev pub IsNumber : Notation → List ℕ → Type 0
IsNumber Decimal text = IsSigned text
IsNumber Hexadecimal text = (zero : List ℕ) × (x : List ℕ) × (ds : List ℕ) × (text ≡ zero ++ (x ++ ds)) × Optionally (byte "0") (λ t. t ≡ []) zero × Optionally (byte "x") (λ t. t ≡ []) x × AllDigits 16 ds
IsNumber Float text = (whole : List ℕ) × (fraction : List ℕ) × (exponent : List ℕ) × (text ≡ whole ++ (fraction ++ exponent)) × IsSigned whole × Optionally (byte ".") (AllDigits 10) fraction × Optionally (byte "e") IsSigned exponent

-- a character that may stand in such a run; an inverted set has all but those that are listed
abbrev pub Suits : Run → ℕ → Type 0
Suits (Until stop) c = (is_blank c ≡ false) × (Some c ≢ stop)
Suits Solid c = is_blank c ≡ false
Suits (Among inverted listing) c = is_listed listing c ≡ not inverted

-- what a field may take, be it empty: a run of such characters, or a number of at most as many characters as its limit says
abbrev pub MayTake : Shape → List ℕ → Type 0
MayTake (Characters run) text = AllByRecursion (Suits run) text
MayTake (Number notation limit) text = IsNumber notation text × IfSome limit (λ n. length text ≤ n)

-- the longest front of the text with this property, and the rest
pub record IsLongest (P : List ℕ → Type 0) (text taken rest : List ℕ) : Type 0 where
  pub whole : text ≡ taken ++ rest
  pub shape : P taken
  pub longest : (other more : List ℕ) → text ≡ other ++ more → P other → length other ≤ length taken

-- the text of a token, by what was taken: a hexadecimal number drops its `0x`, any other its plus sign
abbrev pub token_text : Shape → List ℕ → List ℕ
token_text (Characters run) taken = taken
token_text (Number Hexadecimal limit) taken = if (slice_index taken 0 == byte "0") && (slice_index taken 1 == byte "x") then drop 2 taken else taken
token_text (Number _ limit) taken = without_leading_plus taken

-- a token stands at a place of the input: its text, and what stands behind it
pub record Token : Type 0 where
  pub text : List ℕ
  pub behind : List ℕ

-- the token of an expression, and what is left of the input: where nothing matched an empty token and all of the input, else the text at the token's span and what stands behind the match
abbrev pub matched : List ℕ → Option Match → Token × List ℕ
matched input None = (record { text = []; behind = input }, input)
matched input (Some m) = (record { text = chars (slice_range (encode_utf8_all input) (token_span m).0 (token_span m).1); behind = chars (drop (token_span m).1 (encode_utf8_all input)) }, chars (drop m.trace.end (encode_utf8_all input)))

-- the directive passes a front of the input and leaves the rest: a character that character, a field the longest front of its shape, an expression what its pattern finds, and the token of a field or an expression is stored unless there is a star; the demand that the input has ended passes nothing
abbrev pub Passes : Directive → List ℕ → Option Token → List ℕ → Type 0
Passes (Exactly c) input token rest = (input ≡ c ∷ rest) × (token ≡ None)
Passes (Field stored shape) input token rest = (taken : List ℕ) × IsLongest (MayTake shape) input taken rest × (token ≡ then_some stored (record { text = token_text shape taken; behind = rest }))
Passes (Expression stored pattern) input token rest = (token ≡ then_some stored (matched input (found_in input pattern)).0) × (rest ≡ (matched input (found_in input pattern)).1)
Passes AtEnd input token rest = ⊥

-- what a directive and the later ones come to, over an input whose white space in front is passed: the input has ended; the directive passes no front of it, and this is where it doesn't fit; or the directive passes a front, and the later ones come to something over the rest
pub data Step (d : Directive) (input : List ℕ) (later : List ℕ → Result (List Token) (List ℕ) → Type 0) (out : Result (List Token) (List ℕ)) : Type 0 where
  ended : input ≡ [] → out ≡ Ok [] → Step d input later out
  refused : input ≢ [] → ((token : Option Token) (rest : List ℕ) → Passes d input token rest → ⊥) → out ≡ Err input → Step d input later out
  passed : input ≢ [] → (token : Option Token) (rest : List ℕ) (more : Result (List Token) (List ℕ)) → Passes d input token rest → later rest more → out ≡ result_map_both (cons_option token) (λ place. place) more → Step d input later out

-- what the directives come to over the input, each after white space: tokens, or the input that was left where it didn't fit
abbrev pub Takes : List Directive → List ℕ → Result (List Token) (List ℕ) → Type 0
Takes [] input out = out ≡ Ok []
Takes (d ∷ ds) input out = Step d (after_blanks input) (Takes ds) out

-- the tokens of a scan: where the input didn't fit, one empty token at that place
abbrev pub tokens_of : Result (List Token) (List ℕ) → List Token
tokens_of (Ok tokens) = tokens
tokens_of (Err input) = record { text = []; behind = input } ∷ []

-- these are the tokens of the format over the input
pub record Scanned (input format : List ℕ) (tokens : List Token) : Type 0 where
  pub directives : List Directive
  pub out : Result (List Token) (List ℕ)
  pub cut : Cuts format directives
  pub takes : Takes directives input out
  pub tokens_are : tokens ≡ tokens_of out

-- these are the texts of the tokens
abbrev pub ScannedTexts : List ℕ → List ℕ → List (List ℕ) → Type 0
ScannedTexts input format texts = (tokens : List Token) × Scanned input format tokens × (texts ≡ map (λ (t : Token). t.text) tokens)
