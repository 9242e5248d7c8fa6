-- One field is read back.
use Rattle.std.proofs.Common.{◌≡◌, ◌⊎◌, ◌≤◌, ◌-◌, ◌+◌, ◌&&◌, not, ◌++◌, ℕ, pos, negsuc, Bool, true, false, List, [], ◌∷◌, length, nat_le, Option, sym, subst, refl, ◌∙◌, chars, encode_utf8, leb-true}
use Rattle.std.specs.List.{AllByRecursion}
use Rattle.std.specs.Char.{IsScalar}
use Rattle.sprintf.specs.declared.parser.ConversionSpecifier.{ConversionSpecifier}
use Rattle.sprintf.specs.declared.parser.ConversionType.{ConversionType}
use Rattle.sprintf.specs.declared.parser.ConversionType.TheVariants.{DecInt, OctInt, HexIntLower, HexIntUpper, Char as CharConversion, String}
use Rattle.sprintf.specs.Field.{prefix_of}
use Rattle.scan_fmt.specs.Grammar.{Until}
use Rattle.scan_fmt.specs.Scanned.{Suits}
use Rattle.values.specs.declared.kind.Kind.{Kind}
use Rattle.values.specs.declared.kind.Kind.TheVariants.{Word, Char}
use Rattle.values.specs.Datum.{Datum, natural, integer, word, character}
use Rattle.row_format.specs.Columns.{Column, field_text, width_of}
use Rattle.row_format.specs.Fit.{stop, IsFit}
use Rattle.row_format.specs.Plannable.{is_number, Converts, IsPaired, IsLossy, is_exact, greatest_length, greatest_digits, trailing_spaces, BeginsTaken}
use Rattle.row_laws.specs.Inner.Directives.{shape_by, shape_of, front_by, front_of, Taken, FieldReads}
use Rattle.row_laws.proofs.Fields.Shown.{Standing, assemble}
use Rattle.row_laws.proofs.Fields.Layout.{when}
use Rattle.row_laws.proofs.Fields.Decimal.{Exact}
use Rattle.row_laws.proofs.Fields.Text.{filled_text, word_standing, character_standing}
use Rattle.row_laws.proofs.Fields.Printed.{natural_text, integer_text, word_field, character_field, precise}
use Rattle.row_laws.proofs.Fields.Numbers.{natural_standing, positive_standing, negative_standing}
pub mod Spaces
pub mod Longest
pub mod Digits
pub mod Shown
pub mod Layout
pub mod Decimal
pub mod Octal
pub mod Hexadecimal
pub mod Text
pub mod Widths
pub mod Printed
pub mod Numbers

-- what a field that is exact has
exact_by : (number pads left space : Bool) (greatest width : ℕ) → (number && pads && not left && not space && nat_le greatest width) ≡ true → Exact left pads space greatest width
exact_by true true false false greatest width e = record { zeros = refl; right = refl; no_space = refl; fits = leb-true greatest width e }
exact_by true true false true greatest width e = absurd (cc)
exact_by true true true space greatest width e = absurd (cc)
exact_by true false left space greatest width e = absurd (cc)
exact_by false pads left space greatest width e = absurd (cc)

exact_is : (f : ConversionSpecifier) (kind : Kind) → is_exact f kind ≡ true → Exact f.left_adj f.zero_pad f.space_sign (length (when f.alt_form (prefix_of f.conversion_type)) + greatest_digits f.conversion_type kind) (width_of f)
exact_is f kind e = exact_by (is_number kind) f.zero_pad f.left_adj f.space_sign (greatest_length f kind) (width_of f) e

-- a word's and a character's field, by its conversion

not_true : false ≡ true → ⊥
not_true e = cc

word_by : (v : ConversionType) (text : List ℕ) (alt exact left : Bool) (width room : ℕ) (end : Option ℕ) → exact ≡ false → Converts v Word → Standing String Word (word text) exact end [] (shape_by String alt exact width end) (filled_text left room text)
    → Standing v Word (word text) exact end (front_by v alt) (shape_by v alt exact width end) (filled_text left room text)
word_by String text alt exact left width room end never h s = s
word_by DecInt text alt exact left width room end never h s = absurd (not_true h)
word_by OctInt text alt exact left width room end never h s = absurd (not_true h)
word_by HexIntLower text alt exact left width room end never h s = absurd (not_true h)
word_by HexIntUpper text alt exact left width room end never h s = absurd (not_true h)
word_by CharConversion text alt exact left width room end never h s = absurd (cc)
word_by v text alt exact left width room end never h s = absurd h

character_by : (v : ConversionType) (c : ℕ) (alt exact left : Bool) (width room : ℕ) (end : Option ℕ) → exact ≡ false → Converts v Char
    → Standing CharConversion Char (character c) exact end [] (shape_by CharConversion alt exact width end) (filled_text left room (encode_utf8 c))
    → Standing v Char (character c) exact end (front_by v alt) (shape_by v alt exact width end) (filled_text left room (encode_utf8 c))
character_by CharConversion c alt exact left width room end never h s = s
character_by DecInt c alt exact left width room end never h s = absurd (not_true h)
character_by OctInt c alt exact left width room end never h s = absurd (not_true h)
character_by HexIntLower c alt exact left width room end never h s = absurd (not_true h)
character_by HexIntUpper c alt exact left width room end never h s = absurd (not_true h)
character_by String c alt exact left width room end never h s = absurd (cc)
character_by v c alt exact left width room end never h s = absurd h

-- the field's text, by its value
abbrev Stands : Column → Kind → Datum → List ℕ → Type 0
Stands c kind value text = Standing c.field.conversion_type kind value (is_exact c.field kind) (stop c) (front_of c) (shape_of c kind) text

stands : (c : Column) (kind : Kind) (value : Datum) → IsPaired c kind → ¬ IsLossy (c ∷ []) (kind ∷ []) → IsFit c kind value → Stands c kind value (field_text c.field kind value)
stands c kind (natural n) pair lossless fit = subst (Stands c kind (natural n)) (sym (natural_text kind n c.field pair.0 pair.1 fit.0))
    (natural_standing c.field.conversion_type c.field.alt_form c.field.left_adj c.field.zero_pad c.field.space_sign (width_of c.field) kind n (is_exact c.field kind) (stop c) pair.0 fit.0 (exact_is c.field kind))
stands c kind (integer (pos n)) pair lossless fit = subst (Stands c kind (integer (pos n))) (sym (integer_text kind (pos n) c.field pair.0 pair.1 fit.0))
    (positive_standing c.field.conversion_type c.field.alt_form c.field.left_adj c.field.zero_pad c.field.force_sign c.field.space_sign (width_of c.field) kind n (is_exact c.field kind) (stop c) pair.0 fit.0 (exact_is c.field kind))
stands c kind (integer (negsuc n)) pair lossless fit = subst (Stands c kind (integer (negsuc n))) (sym (integer_text kind (negsuc n) c.field pair.0 pair.1 fit.0))
    (negative_standing c.field.conversion_type c.field.alt_form c.field.left_adj c.field.zero_pad c.field.space_sign (width_of c.field) kind n (is_exact c.field kind) (stop c) pair.0 fit.0 (exact_is c.field kind))
stands c Word (word text) pair lossless fit = subst (Stands c Word (word text)) (sym (word_field c.field text pair.0 pair.1 (precise c.field.precision lossless) fit.1.1))
    (word_by c.field.conversion_type text c.field.alt_form (is_exact c.field Word) c.field.left_adj (width_of c.field) _ (stop c) refl pair.0 (word_standing Word text (is_exact c.field Word) (stop c) c.field.left_adj _ refl fit.0 fit.1.0 fit.1.2))
stands c Char (character x) pair lossless fit = subst (Stands c Char (character x)) (sym (character_field c.field x pair.0 pair.1))
    (character_by c.field.conversion_type x c.field.alt_form (is_exact c.field Char) c.field.left_adj (width_of c.field) _ (stop c) refl pair.0 (character_standing Char x (is_exact c.field Char) (stop c) c.field.left_adj _ refl fit.0 fit.1))
stands c kind value pair lossless fit = absurd fit.0

pub field_reads : FieldReads
field_reads c kind value behind pair lossless fit utf8 ends = assemble c kind value behind (stands c kind value pair lossless fit) ends
