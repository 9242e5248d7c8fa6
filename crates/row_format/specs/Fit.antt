-- Which values fit a column: those that no scan would cut short.
use Rattle.std.specs.Prelude.{◌≡◌, ℕ, ◌<◌, ◌≤◌, ◌⊎◌, List, [], ◌∷◌, length, Option, ⊤}
use Rattle.std.specs.Char.{digit_value}
use Rattle.std.specs.List.{AllByRecursion}
use Rattle.std.specs.Str.{byte, chars}
use Rattle.sprintf.specs.declared.parser.ConversionType.{ConversionType}
use Rattle.sprintf.specs.declared.parser.ConversionType.TheVariants.{DecInt, OctInt, HexIntLower, HexIntUpper, Char, String}
use Rattle.scan_fmt.specs.Grammar.{first, Until}
use Rattle.scan_fmt.specs.Scanned.{Suits}
use Rattle.values.specs.declared.kind.Kind.{Kind}
use Rattle.values.specs.Datum.{Datum, natural, integer, word, character, IsOfKind}
use Rattle.row_format.specs.Columns.{Column}

-- The stop character of a column is the first character behind its field, if there is literal text.
abbrev pub stop : Column → Option ℕ
stop c = first (chars c.after)

-- A field takes digits of its base; a hexadecimal one also `x`; a word or a character every character but white space and the stop character.
abbrev pub Takes : ConversionType → Option ℕ → ℕ → Type 0
Takes DecInt end c = digit_value c < 10
Takes OctInt end c = digit_value c < 10
Takes HexIntLower end c = (digit_value c < 16) ⊎ (c ≡ byte "x")
Takes HexIntUpper end c = (digit_value c < 16) ⊎ (c ≡ byte "x")
Takes String end c = Suits (Until end) c
Takes Char end c = Suits (Until end) c
Takes _ end c = ⊥

-- Any number may stand in front of the stop character; a word where it is nonempty, of at most 2147483647 bytes, and each of its characters is taken; a character where it is taken.
abbrev pub MayStandBefore : Option ℕ → Datum → Type 0
MayStandBefore end (natural n) = ⊤
MayStandBefore end (integer z) = ⊤
MayStandBefore end (word text) = (0 < length text) × (length text ≤ 2147483647) × AllByRecursion (Suits (Until end)) (chars text)
MayStandBefore end (character c) = Suits (Until end) c

-- A value fits a column where it is of the kind and may stand in front of the stop character.
abbrev pub IsFit : Column → Kind → Datum → Type 0
IsFit c kind value = IsOfKind kind value × MayStandBefore (stop c) value

-- There is one value for each column and its kind, and each fits.
abbrev pub AreFit : List Column → List Kind → List Datum → Type 0
AreFit [] [] [] = ⊤
AreFit (c ∷ cs) (kind ∷ kinds) (value ∷ values) = IsFit c kind value × AreFit cs kinds values
AreFit _ _ _ = ⊥
