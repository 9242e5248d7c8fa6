-- A printf format, element by element.
use Rattle.std.specs.Prelude.{◌≡◌, ℕ, List, ◌∷◌, drop, true, false, ℤ, pos, slice_get, Some, Result, Ok}
use Rattle.sprintf.specs.declared.PrintfError.{PrintfError}
use Rattle.sprintf.specs.declared.parser.ConversionSpecifier.{ConversionSpecifier}
use Rattle.sprintf.specs.declared.parser.ConversionType.TheVariants.{DecInt, String}
use Rattle.sprintf.specs.declared.parser.FormatElement.{FormatElement}
use Rattle.sprintf.specs.declared.parser.NumericParam.TheVariants.{Literal}
use Rattle.sprintf.specs.Meaning.{Meaning}
use Rattle.sprintf.specs.Text.{field_text, onto, printed, wanted}
use Rattle.values.specs.declared.kind.Kind.{Kind}
use Rattle.values.specs.Datum.{each_of, printf_meaning}
use Rattle.tokens.specs.declared.Token.{Token}
use Rattle.tokens.specs.Tokens.{AreTokens, IsToken, data_of, datum_at}
use Rattle.pieces.specs.declared.layout.Form.{Form}
use Rattle.pieces.specs.declared.layout.Form.TheVariants.{Number, Signed, Copied, WithoutPlus, Field}
use Rattle.pieces.specs.Inner.Layout.{Parts, layout_text, token_text}

-- The field prints numbers plainly.
pub record IsPlainNumber (f : ConversionSpecifier) : Type 0 where
  pub conversion : f.conversion_type ≡ DecInt
  pub width : f.width ≡ Literal (pos 0)
  pub precision : (z : ℤ) × (f.precision ≡ Literal z)
  pub plus : f.force_sign ≡ false
  pub space : f.space_sign ≡ false

-- The field prints numbers without a width, with a plus sign in front of those that are not negative.
pub record IsPlusNumber (f : ConversionSpecifier) : Type 0 where
  pub conversion : f.conversion_type ≡ DecInt
  pub width : f.width ≡ Literal (pos 0)
  pub plus : f.force_sign ≡ true

-- The field prints words plainly.
pub record IsPlainWord (f : ConversionSpecifier) : Type 0 where
  pub conversion : f.conversion_type ≡ String
  pub width : f.width ≡ Literal (pos 0)
  pub precision : f.precision ≡ Literal (pos 2147483647)

-- The field prints values of the form plainly.
abbrev pub IsPlain : Form → ConversionSpecifier → Type 0
IsPlain Number f = IsPlainNumber f
IsPlain Signed f = IsPlainNumber f
IsPlain Copied f = IsPlainWord f
IsPlain WithoutPlus f = ⊥
IsPlain (Field source g) f = ⊥

-- The width and the precision are numbers.
pub record HasNumbers (f : ConversionSpecifier) : Type 0 where
  pub width : (z : ℤ) × (f.width ≡ Literal z)
  pub precision : (z : ℤ) × (f.precision ≡ Literal z)

-- The field takes one value, and its text is the value's.
abbrev pub TakesOne : ConversionSpecifier → Type 0
TakesOne f = (v : Meaning) (values : List Meaning) → (field_text f (v ∷ values) ≡ v.text f) × (wanted f ≡ 1)

-- What the field prints of a token of the kind is the token's text in the form.
abbrev pub PrintsTokens : ConversionSpecifier → Kind → Form → Type 0
PrintsTokens f kind form = (row : List ℕ) (token : Token) → IsToken kind row token → (printf_meaning kind (datum_at kind row token)).text f ≡ Ok (token_text form row token)

-- The field prints values of the kind in the form.
pub record IsFormUnder (f : ConversionSpecifier) (kind : Kind) (form : Form) : Type 0 where
  pub takes : TakesOne f
  pub prints : PrintsTokens f kind form

-- The field prints the value at the place in the form.
abbrev pub HasFormUnder : ConversionSpecifier → List Kind → ℕ → Form → Type 0
HasFormUnder f kinds place form = (kind : Kind) × (slice_get kinds place ≡ Some kind) × IsFormUnder f kind form

-- The values of a row, as a printf format sees them.
abbrev pub meanings : List Kind → List ℕ → List Token → List Meaning
meanings kinds row tokens = each_of printf_meaning kinds (data_of kinds row tokens)

-- The text of a layout, and behind it what elements print of the values from a place on.
abbrev pub printed_behind : Parts → List FormatElement → ℕ → List Kind → List ℕ → List Token → Result (List ℕ) PrintfError
printed_behind layout elements place kinds row tokens = onto (layout_text layout row tokens) (printed elements (drop place (meanings kinds row tokens)))

-- A step takes elements into the layout, and leaves the text as it is.
abbrev pub Moves : List Kind → Parts → List FormatElement → ℕ → Parts → List FormatElement → ℕ → Type 0
Moves kinds old elements place new rest next = (row : List ℕ) (tokens : List Token) → AreTokens kinds row tokens → printed_behind old elements place kinds row tokens ≡ printed_behind new rest next kinds row tokens

-- So much of the elements is in the layout.
abbrev pub IsInPart : List Kind → List FormatElement → Parts → List FormatElement → ℕ → Type 0
IsInPart kinds elements layout rest place = (row : List ℕ) (tokens : List Token) → AreTokens kinds row tokens → printed elements (meanings kinds row tokens) ≡ printed_behind layout rest place kinds row tokens

-- All of the elements is in the layout.
abbrev pub IsWhole : List Kind → List FormatElement → Parts → Type 0
IsWhole kinds elements layout = (row : List ℕ) (tokens : List Token) → AreTokens kinds row tokens → printed elements (meanings kinds row tokens) ≡ Ok (layout_text layout row tokens)
