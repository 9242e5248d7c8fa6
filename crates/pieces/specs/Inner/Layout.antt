-- Literal texts and values in turn, and the text that they make over a row.
use Rattle.std.specs.Prelude.{◌≡◌, ◌==◌, if◌then◌else◌, ℕ, List, [], ◌∷◌, ◌++◌, false, slice_get, slice_range, Option, Some, None}
use Rattle.std.specs.Str.{byte}
use Rattle.std.specs.Int.{w64, cast_signed}
use Rattle.numerals.specs.Numeral.{numeral}
use Rattle.formatx.specs.Values.{decimal_of}
use Rattle.values.specs.declared.kind.Kind.{Kind}
use Rattle.values.specs.declared.kind.Kind.TheVariants as Of
use Rattle.tokens.specs.declared.Token.{Token}
use Rattle.tokens.specs.Tokens.{AreTokens, IsToken}
use Rattle.std.specs.Result.{result_unwrap_or}
use Rattle.pieces.specs.declared.layout.Form.{Form}
use Rattle.pieces.specs.declared.layout.Form.TheVariants.{Number, Signed, Copied, WithoutPlus, Field}
use Rattle.pieces.specs.Inner.Source.{source_meaning}

-- How the values of a kind are printed; a character has no form.
abbrev pub form_of : Kind → Option Form
form_of Of.U8 = Some Number
form_of Of.U16 = Some Number
form_of Of.U32 = Some Number
form_of Of.U64 = Some Number
form_of Of.Usize = Some Number
form_of Of.I8 = Some Signed
form_of Of.I16 = Some Signed
form_of Of.I32 = Some Signed
form_of Of.I64 = Some Signed
form_of Of.Isize = Some Signed
form_of Of.Word = Some Copied
form_of Of.Char = None

-- The text without the plus sign in front, if it has one.
abbrev pub without_plus : List ℕ → List ℕ
without_plus [] = []
without_plus (c ∷ rest) = if c == byte "+" then rest else c ∷ rest

-- The text of a token in a form.
abbrev pub token_text : Form → List ℕ → Token → List ℕ
token_text Number row token = numeral 10 false token.number
token_text Signed row token = decimal_of (cast_signed w64 token.number)
token_text Copied row token = slice_range row token.start token.end
token_text WithoutPlus row token = without_plus (slice_range row token.start token.end)
token_text (Field source f) row token = result_unwrap_or ((source_meaning source row token).text f) []

-- The text of a token that may be missing.
abbrev pub text_where : Form → List ℕ → Option Token → List ℕ
text_where form row (Some token) = token_text form row token
text_where form row None = []

-- The token is of some kind.
abbrev pub IsTokenOfSome : List ℕ → Token → Type 0
IsTokenOfSome row token = (kind : Kind) × IsToken kind row token

-- The tokens are of some kinds.
abbrev pub AreTokensOfSome : List ℕ → List Token → Type 0
AreTokensOfSome row tokens = (kinds : List Kind) × AreTokens kinds row tokens

-- Literal text, and the value behind it.
pub record Part : Type 0 where
  pub before : List ℕ
  pub form : Form
  pub place : ℕ

-- Parts in order, and the literal text behind the last of them.
pub record Parts : Type 0 where
  pub parts : List Part
  pub tail : List ℕ

-- The text of a part over a row.
abbrev pub part_text : Part → List ℕ → List Token → List ℕ
part_text p row tokens = p.before ++ text_where p.form row (slice_get tokens p.place)

-- The text of parts over a row.
abbrev pub parts_text : List Part → List ℕ → List Token → List ℕ
parts_text [] row tokens = []
parts_text (p ∷ ps) row tokens = part_text p row tokens ++ parts_text ps row tokens

-- The text of a layout over a row.
abbrev pub layout_text : Parts → List ℕ → List Token → List ℕ
layout_text layout row tokens = parts_text layout.parts row tokens ++ layout.tail

-- The text begins with another one.
abbrev pub Starts : List ℕ → List ℕ → Type 0
Starts front text = (rest : List ℕ) × (text ≡ front ++ rest)

-- The text of the layout is empty over each row.
abbrev pub IsEmpty : Parts → Type 0
IsEmpty layout = (row : List ℕ) (tokens : List Token) → layout_text layout row tokens ≡ []

-- The text of the layout has grown by this text, over each row.
abbrev pub Grows : Parts → Parts → (List ℕ → List Token → List ℕ) → Type 0
Grows old new text = (row : List ℕ) (tokens : List Token) → layout_text new row tokens ≡ layout_text old row tokens ++ text row tokens
