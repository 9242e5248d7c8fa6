-- What the private functions promise, which read a field from the front of a text.
use Rattle.std.specs.Prelude.{◌≡◌, ◌||◌, ◌==◌, ℕ, pos, List, [], ◌∷◌, ◌++◌, length, take, drop, nat_le, if◌then◌else◌, Option, Some, None, unwrap_or}
use Rattle.std.specs.Borrow.{Bor}
use Rattle.std.specs.Char.{is_ascii_digit}
use Rattle.std.specs.List.{prefix_len}
use Rattle.std.specs.Str.{byte}
use Rattle.numerals.specs.Numeral.{text_value}
use Rattle.sprintf.specs.declared.parser.ConversionSpecifier.{ConversionSpecifier}
use Rattle.sprintf.specs.declared.parser.ConversionType.{ConversionType}
use Rattle.sprintf.specs.declared.parser.ConversionType.TheVariants.{DecInt, OctInt, HexIntLower, HexIntUpper, SciFloatLower, SciFloatUpper, DecFloatLower, DecFloatUpper, CompactFloatLower, CompactFloatUpper, Char, String, PercentSign}
use Rattle.sprintf.specs.declared.parser.FormatElement.{FormatElement}
use Rattle.sprintf.specs.declared.parser.FormatElement.TheVariants.{Verbatim}
use Rattle.sprintf.specs.declared.parser.NumericParam.{NumericParam}
use Rattle.sprintf.specs.declared.parser.NumericParam.TheVariants.{Literal, FromArgument}
use Rattle.sprintf.specs.Grammar.{has, is_flag, letters_of, length_modifiers, default_precision}

-- what was read goes on to the next step
abbrev pub then_read : {A B : Type 0} → Option (A × List ℕ) → (A → List ℕ → Option B) → Option B
then_read (Some r) next = next r.0 r.1
then_read None next = None

-- the number that digits state, where an i32 holds it; no digits count as 0
abbrev pub read_count : List ℕ → List ℕ → Option (NumericParam × List ℕ)
read_count digits rest = if nat_le (text_value 10 digits) 2147483647 then Some (Literal (pos (text_value 10 digits)), rest) else None

-- a width, or a precision behind its `.`
abbrev pub read_param : List ℕ → Option (NumericParam × List ℕ)
read_param [] = Some (Literal (pos 0), [])
read_param (c ∷ text) = if byte "*" == c then Some (FromArgument, text) else (let n = prefix_len is_ascii_digit (c ∷ text) in read_count (take n (c ∷ text)) (drop n (c ∷ text)))

abbrev pub written : Option (NumericParam × List ℕ) → Option (Option NumericParam × List ℕ)
written (Some r) = Some (Some r.0, r.1)
written None = None

-- a precision with its `.`, where there is one
abbrev pub read_precision : List ℕ → Option (Option NumericParam × List ℕ)
read_precision [] = Some (None, [])
read_precision (c ∷ text) = if byte "." == c then written (read_param text) else Some (None, c ∷ text)

-- the text behind the word, where it begins with it
abbrev pub behind : List ℕ → List ℕ → Option (List ℕ)
behind [] text = Some text
behind (c ∷ word) [] = None
behind (c ∷ word) (b ∷ text) = if c == b then behind word text else None

-- the text behind the first of these words that it begins with, or all of it
abbrev pub skip_one : List (List ℕ) → List ℕ → List ℕ
skip_one [] text = text
skip_one (word ∷ words) text = unwrap_or (behind word text) (skip_one words text)

-- the conversion that a character stands for, among these
abbrev pub conversion_among : List ConversionType → ℕ → Option ConversionType
conversion_among [] c = None
conversion_among (t ∷ ts) c = if has (letters_of t) c then Some t else conversion_among ts c

abbrev pub all_conversions : List ConversionType
all_conversions = DecInt ∷ OctInt ∷ HexIntLower ∷ HexIntUpper ∷ SciFloatLower ∷ SciFloatUpper ∷ DecFloatLower ∷ DecFloatUpper ∷ CompactFloatLower ∷ CompactFloatUpper ∷ Char ∷ String ∷ PercentSign ∷ []

abbrev pub conversion_of : ℕ → Option ConversionType
conversion_of c = conversion_among all_conversions c

-- the precision that was written, or else the default
abbrev pub precision_or_default : Option NumericParam → ConversionType → NumericParam
precision_or_default (Some p) t = p
precision_or_default None t = Literal (pos (default_precision t))

-- the field of these parts
abbrev pub field_with : List ℕ → NumericParam → Option NumericParam → ℕ → ConversionType → ConversionSpecifier
field_with flags width precision letter t = record {
  alt_form = has flags (byte "#") || (letter == byte "p");
  zero_pad = has flags (byte "0");
  left_adj = has flags (byte "-");
  space_sign = has flags (byte " ");
  force_sign = has flags (byte "+");
  width = width;
  precision = precision_or_default precision t;
  conversion_type = t;
}

abbrev pub read_as : List ℕ → NumericParam → Option NumericParam → ℕ → List ℕ → Option ConversionType → Option (ConversionSpecifier × List ℕ)
read_as flags width precision letter rest (Some t) = Some (field_with flags width precision letter t, rest)
read_as flags width precision letter rest None = None

abbrev pub read_letter : List ℕ → NumericParam → Option NumericParam → List ℕ → Option (ConversionSpecifier × List ℕ)
read_letter flags width precision [] = None
read_letter flags width precision (letter ∷ rest) = read_as flags width precision letter rest (conversion_of letter)

-- a field behind its `%`
abbrev pub read_field : List ℕ → Option (ConversionSpecifier × List ℕ)
read_field text =
    let n = prefix_len is_flag text in
    then_read (read_param (drop n text)) (λ width after. then_read (read_precision after) (λ precision last. read_letter (take n text) width precision (skip_one length_modifiers last)))

-- a literal run, unless it is empty
abbrev pub verbatim : Bor (List ℕ) → List FormatElement
verbatim s = if length s.now == 0 then [] else Verbatim s ∷ []

-- the text begins with another one
abbrev pub Starts : List ℕ → List ℕ → Type 0
Starts front text = (rest : List ℕ) × (text ≡ front ++ rest)
