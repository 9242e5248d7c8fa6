-- Which way of taking serves a field.
use Rattle.std.specs.Prelude.{◌≡◌, ◌⊎◌, ◌<◌, ℕ, List, Some, true, false}
use Rattle.std.specs.Str.{chars}
use Rattle.scan_fmt.specs.Grammar.{first, is_blank}
use Rattle.sprintf.specs.declared.parser.ConversionSpecifier.{ConversionSpecifier}
use Rattle.sprintf.specs.declared.parser.ConversionType.{ConversionType}
use Rattle.sprintf.specs.declared.parser.ConversionType.TheVariants.{OctInt, HexIntLower, HexIntUpper}
use Rattle.values.specs.declared.kind.Kind.{Kind}
use Rattle.values.specs.declared.kind.Kind.TheVariants.{U8, U16, U32, U64, Usize, I8, I16, I32, I64, Isize}
use Rattle.row_format.specs.Columns.{field_text}
use Rattle.row_format.specs.Fit.{IsFit}
use Rattle.columns.specs.Inner.Shapes.{Shape}
use Rattle.columns.specs.Fields.{token_text}
use Rattle.tokens.specs.Tokens.{datum_at}
use Rattle.columns.specs.declared.hexadecimal.Notation.{Notation}
use Rattle.columns.specs.declared.hexadecimal.Notation.TheVariants.{Octal, Lower, Upper}
use Rattle.columns.specs.declared.take.Take.{Take}
use Rattle.tokens.specs.declared.Token.{Token}

-- What the token denotes fits the field, which prints of it what stands there.
pub record IsServed (field : ConversionSpecifier) (kind : Kind) (after row : List ℕ) (token : Token) : Type 0 where
  pub fit : IsFit (record { field = field; after = after }) kind (datum_at kind row token)
  pub text : token_text row token ≡ field_text field kind (datum_at kind row token)

-- Whatever is taken fits the field, which prints it again.
abbrev pub Serves : ConversionSpecifier → Kind → List ℕ → Take → Type 0
Serves field kind after take = (row : List ℕ) (token : Token) → Shape take (token_text row token) token.number → IsServed field kind after row token

-- The number is the greatest of a kind without signs.
abbrev pub IsGreatest : Kind → ℕ → Type 0
IsGreatest U8 n = n ≡ 255
IsGreatest U16 n = n ≡ 65535
IsGreatest U32 n = n ≡ 4294967295
IsGreatest U64 n = n ≡ 18446744073709551615
IsGreatest Usize n = n ≡ 18446744073709551615
IsGreatest _ n = ⊥

-- The number is the greatest of a kind with signs.
abbrev pub IsGreatestSigned : Kind → ℕ → Type 0
IsGreatestSigned I8 n = n ≡ 127
IsGreatestSigned I16 n = n ≡ 32767
IsGreatestSigned I32 n = n ≡ 2147483647
IsGreatestSigned I64 n = n ≡ 9223372036854775807
IsGreatestSigned Isize n = n ≡ 9223372036854775807
IsGreatestSigned _ n = ⊥

-- The numbers are the greatest whose bits a kind's numbers have, and the greatest of these that is not negative.
abbrev pub AreBounds : Kind → ℕ → ℕ → Type 0
AreBounds U8 greatest middle = (greatest ≡ 255) × (middle ≡ 255)
AreBounds U16 greatest middle = (greatest ≡ 65535) × (middle ≡ 65535)
AreBounds U32 greatest middle = (greatest ≡ 4294967295) × (middle ≡ 4294967295)
AreBounds U64 greatest middle = (greatest ≡ 18446744073709551615) × (middle ≡ 18446744073709551615)
AreBounds Usize greatest middle = (greatest ≡ 18446744073709551615) × (middle ≡ 18446744073709551615)
AreBounds I8 greatest middle = (greatest ≡ 255) × (middle ≡ 127)
AreBounds I16 greatest middle = (greatest ≡ 65535) × (middle ≡ 32767)
AreBounds I32 greatest middle = (greatest ≡ 4294967295) × (middle ≡ 2147483647)
AreBounds I64 greatest middle = (greatest ≡ 18446744073709551615) × (middle ≡ 9223372036854775807)
AreBounds Isize greatest middle = (greatest ≡ 18446744073709551615) × (middle ≡ 9223372036854775807)
AreBounds _ greatest middle = ⊥

-- The conversion that prints numbers in the notation.
abbrev pub conversion_of : Notation → ConversionType
conversion_of Octal = OctInt
conversion_of Lower = HexIntLower
conversion_of Upper = HexIntUpper

-- The field has no room to fill, or zeros fill it.
abbrev pub IsFilledByZeros : ConversionSpecifier → ℕ → Type 0
IsFilledByZeros field width = (width ≡ 0) ⊎ ((field.zero_pad ≡ true) × (field.left_adj ≡ false))

-- In front of the literal text no character but white space and this one ends a word.
pub record IsStop (after : List ℕ) (stop : ℕ) : Type 0 where
  pub ascii : stop < 128
  pub is : (c : ℕ) → is_blank c ≡ false → Some c ≡ first (chars after) → c ≡ stop
