-- What the program's own types for the parts of a format stand for, and what one directive does to an input.
use Rattle.std.specs.Prelude.{◌≡◌, ℕ, ◌≤◌, List, [], ◌∷◌, ◌++◌, length, Option, None, Some, Result, ⊤}
use Rattle.std.specs.List.{AllZip, cons_option}
use Rattle.std.specs.Result.{result_map_both}
use Rattle.std.specs.Str.{chars, IsCharBoundary}
use Rattle.scan_fmt.specs.declared.directive.Run.{Run as RunPart}
use Rattle.scan_fmt.specs.declared.directive.Run.TheVariants.{Until as UntilPart, Solid as SolidPart, Among as AmongPart}
use Rattle.scan_fmt.specs.declared.directive.Notation.{Notation as NotationPart}
use Rattle.scan_fmt.specs.declared.directive.Notation.TheVariants.{Decimal as DecimalPart, Hexadecimal as HexadecimalPart, Float as FloatPart}
use Rattle.scan_fmt.specs.declared.directive.Shape.{Shape as ShapePart}
use Rattle.scan_fmt.specs.declared.directive.Shape.TheVariants.{Characters as CharactersPart, Number as NumberPart}
use Rattle.scan_fmt.specs.declared.directive.Body.{Body}
use Rattle.scan_fmt.specs.declared.directive.Body.TheVariants.{Until as UntilBody, Solid as SolidBody, Lists, Number as NumberBody, Finds as FindsPart, Ends as EndsPart}
use Rattle.scan_fmt.specs.declared.directive.Directive.{Directive as DirectivePart}
use Rattle.scan_fmt.specs.declared.directive.Directive.TheVariants.{Literal, Field as FieldPart, Expression as ExpressionPart, End}
use Rattle.scan_fmt.specs.declared.field.Pass.{Pass}
use Rattle.scan_fmt.specs.declared.field.Pass.TheVariants.{Mismatch, Passed, Taken}
use Rattle.scan_fmt.specs.Grammar.{Run, Until, Solid, Among, Notation, Decimal, Hexadecimal, Float, Shape, Characters, Number, Directive, Exactly, Field, Expression, AtEnd}
use Rattle.scan_fmt.specs.declared.slices.Piece.{Piece}
use Rattle.scan_fmt.specs.Slices.{IsPiece}
use Rattle.scan_fmt.specs.Scanned.{Token, Passes, Takes, tokens_of}
use Rattle.scan_fmt.specs.Inner.Found.{AreParts}
use Rattle.scan_fmt.specs.Inner.Fields.{Content, Shaped, Finds, Ends}

abbrev pub run_of : RunPart → Run
run_of (UntilPart stop) = Until stop
run_of SolidPart = Solid
run_of (AmongPart inverted set) = Among inverted (chars set.listing.now)

abbrev pub notation_of : NotationPart → Notation
notation_of DecimalPart = Decimal
notation_of HexadecimalPart = Hexadecimal
notation_of FloatPart = Float

abbrev pub shape_of : ShapePart → Shape
shape_of (CharactersPart run) = Characters (run_of run)
shape_of (NumberPart notation limit) = Number (notation_of notation) limit

abbrev pub body_of : Body → Content
body_of (UntilBody stop) = Shaped (Characters (Until stop))
body_of SolidBody = Shaped (Characters Solid)
body_of (Lists inverted listing) = Shaped (Characters (Among inverted (chars listing.now)))
body_of (NumberBody notation limit) = Shaped (Number (notation_of notation) limit)
body_of (FindsPart pattern) = Finds (chars pattern.now)
body_of EndsPart = Ends

abbrev pub directive_of : DirectivePart → Directive
directive_of (Literal c) = Exactly c
directive_of (FieldPart stored shape) = Field stored (shape_of shape)
directive_of (ExpressionPart stored expression) = Expression stored expression
directive_of End = AtEnd

-- the directive passes no front of the input
abbrev pub Refuses : Directive → List ℕ → Type 0
Refuses d input = (token : Option Token) (rest : List ℕ) → Passes d input token rest → ⊥

-- what a scan comes to: the tokens, or what was left of the input where it didn't fit
abbrev pub Outcome : Type 0
Outcome = Result (List Token) (List ℕ)

-- the outcome with this token in front, if there is one
abbrev pub with_token : Option Token → Outcome → Outcome
with_token token out = result_map_both (cons_option token) (λ place. place) out

-- the input doesn't fit, or a front was passed with or without a token
abbrev pub IsPass : Directive → List ℕ → Pass → Type 0
IsPass d input Mismatch = Refuses d input
IsPass d input (Passed rest) = Passes d input None (chars rest.now)
IsPass d input (Taken token behind rest) = Passes d input (Some (record { text = chars token.now; behind = chars behind.now })) (chars rest.now)

-- what is left of the input ends it, and a token lies before it
abbrev pub LiesIn : List ℕ → Pass → Type 0
LiesIn input Mismatch = ⊤
LiesIn input (Passed rest) = (front : List ℕ) × (input ≡ front ++ rest.now)
LiesIn input (Taken token behind rest) = AreParts input token.now behind.now rest.now

-- the piece lies in the input and cuts no character
pub record IsSlice (input : List ℕ) (piece : Piece) : Type 0 where
  pub forward : piece.start ≤ piece.end
  pub within : piece.end ≤ length input
  pub starts : IsCharBoundary input piece.start
  pub ends : IsCharBoundary input piece.end

-- one piece for each token
abbrev pub ArePieces : List ℕ → List Piece → List Token → Type 0
ArePieces input = AllZip (IsPiece input)

-- each piece starts at or after the end of the one before, and the first at or after this place
abbrev pub AreInOrder : ℕ → List Piece → Type 0
AreInOrder from [] = ⊤
AreInOrder from (p ∷ ps) = (from ≤ p.start) × AreInOrder p.end ps

-- these are the pieces of the tokens that the directives come to over the input
pub record TakesPieces (ds : List Directive) (input : List ℕ) (pieces : List Piece) : Type 0 where
  pub out : Outcome
  pub takes : Takes ds (chars input) out
  pub are : ArePieces input pieces (tokens_of out)
  pub in_order : AreInOrder 0 pieces
