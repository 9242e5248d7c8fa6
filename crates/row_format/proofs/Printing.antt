-- What elements print of values that fit is the text of their columns.
use Rattle.std.proofs.Common.{◌≡◌, ◌≢◌, ℕ, ℤ, pos, negsuc, Bool, true, false, if◌then◌else◌, List, [], ◌∷◌, drop, codes, Some, Result, Ok, refl, ap, sym, append_assoc}
use Rattle.sprintf.specs.declared.PrintfError.{PrintfError}
use Rattle.sprintf.specs.declared.parser.ConversionSpecifier.{ConversionSpecifier}
use Rattle.sprintf.specs.declared.parser.ConversionType.{ConversionType}
use Rattle.sprintf.specs.declared.parser.ConversionType.TheVariants.{DecInt, OctInt, HexIntLower, HexIntUpper, Char, String, PercentSign}
use Rattle.sprintf.specs.declared.parser.NumericParam.{NumericParam}
use Rattle.sprintf.specs.declared.parser.NumericParam.TheVariants.{Literal, FromArgument}
use Rattle.sprintf.specs.declared.parser.FormatElement.{FormatElement}
use Rattle.sprintf.specs.declared.parser.FormatElement.TheVariants.{Verbatim, Format}
use Rattle.sprintf.specs.Field.{number_of, number_text, unsigned_text, signed_text, character_text, word_text}
use Rattle.sprintf.specs.Meaning.{Meaning, by_conversion}
use Rattle.sprintf.specs.Text.{printed, field_by, then_with, wanted_by, param_of, stars, value_text}
use Rattle.values.specs.declared.kind.Kind.{Kind}
use Rattle.values.specs.declared.kind.Kind.TheVariants.{U8, U16, U32, U64, Usize, I8, I16, I32, I64, Isize, Word, Char as CharKind}
use Rattle.values.specs.Datum.{Datum, natural, integer, word, character, IsOfKind, printf_meaning, each_of}
use Rattle.row_format.specs.Columns.{Column, is_percent, columns_of, with_text, columns_text, row_text}
use Rattle.row_format.specs.Inner.Elements.{with_field, text_or_none}
use Rattle.row_format.specs.Fit.{AreFit}
use Rattle.row_format.specs.Laws.{PrintsColumns}
use Rattle.row_format.specs.Plannable.{is_number, Converts, IsPaired, IsUnpaired, Never}

-- an answer that is a text
abbrev IsTold : Result (List ℕ) PrintfError → Type 0
IsTold answer = answer ≡ Ok (text_or_none answer)

-- a width or a precision that is a number
abbrev IsLiteral : NumericParam → Type 0
IsLiteral (Literal z) = Unit {0}
IsLiteral FromArgument = ⊥

is_literal : (p : NumericParam) → p ≢ FromArgument → IsLiteral p
is_literal (Literal z) h = tt
is_literal FromArgument h = h refl

number_told : (p : NumericParam) → IsLiteral p → (w : ℕ) × (number_of p ≡ Some w)
number_told (Literal (pos n)) h = (n, refl)
number_told (Literal (negsuc n)) h = (0, refl)
number_told FromArgument h = absurd h

number_text-told : (f : ConversionSpecifier) (lead : List ℕ) (n : ℕ) → IsLiteral f.width → IsTold (number_text f lead n)
number_text-told f lead n h = let w = number_told f.width h in rw w.1 refl

unsigned_text-told : (f : ConversionSpecifier) (n : ℕ) → IsLiteral f.width → IsTold (unsigned_text f n)
unsigned_text-told f n h = number_text-told f _ n h

signed_text-told : (conversion : ConversionType) (f : ConversionSpecifier) (z : ℤ) (n : ℕ) → IsLiteral f.width → IsTold (signed_text conversion f z n)
signed_text-told DecInt f z n h = number_text-told f _ _ h
signed_text-told _ f z n h = unsigned_text-told f n h

character_text-told : (f : ConversionSpecifier) (c : ℕ) → IsLiteral f.width → IsTold (character_text f c)
character_text-told f c h = let w = number_told f.width h in rw w.1 refl

word_text-told : (f : ConversionSpecifier) (text : List ℕ) → IsLiteral f.width → IsLiteral f.precision → IsTold (word_text f text)
word_text-told f text h k = let w = number_told f.width h in let p = number_told f.precision k in rw (w.1, p.1) refl

no_char : (kind : Kind) → is_number kind ≡ true → kind ≢ CharKind
no_char kind h e = let both : is_number CharKind ≡ true = rw e at h in cc

no_word : (kind : Kind) → is_number kind ≡ true → kind ≢ Word
no_word kind h e = let both : is_number Word ≡ true = rw e at h in cc

-- a number goes with a conversion to digits
digits_told : (conversion : ConversionType) (kind : Kind) (d c w : Result (List ℕ) PrintfError) → Converts conversion kind → is_number kind ≡ true → IsTold d → IsTold (by_conversion conversion d c w)
digits_told DecInt kind d c w so n h = h
digits_told OctInt kind d c w so n h = h
digits_told HexIntLower kind d c w so n h = h
digits_told HexIntUpper kind d c w so n h = h
digits_told Char kind d c w so n h = absurd (no_char kind n so)
digits_told String kind d c w so n h = absurd (no_word kind n so)
digits_told _ kind d c w so n h = absurd so

-- a word goes with `%s`
word_told : (conversion : ConversionType) (d c w : Result (List ℕ) PrintfError) → Converts conversion Word → IsTold w → IsTold (by_conversion conversion d c w)
word_told DecInt d c w so h = cc
word_told OctInt d c w so h = cc
word_told HexIntLower d c w so h = cc
word_told HexIntUpper d c w so h = cc
word_told Char d c w so h = cc
word_told String d c w so h = h
word_told _ d c w so h = absurd so

-- a character goes with `%c`
char_told : (conversion : ConversionType) (d c w : Result (List ℕ) PrintfError) → Converts conversion CharKind → IsTold c → IsTold (by_conversion conversion d c w)
char_told DecInt d c w so h = cc
char_told OctInt d c w so h = cc
char_told HexIntLower d c w so h = cc
char_told HexIntUpper d c w so h = cc
char_told Char d c w so h = h
char_told String d c w so h = cc
char_told _ d c w so h = absurd so

-- what a value of the kind prints under a field that goes with it is a text
value_told : (kind : Kind) (value : Datum) (f : ConversionSpecifier) → IsOfKind kind value → Converts f.conversion_type kind → IsLiteral f.width → IsLiteral f.precision → IsTold ((printf_meaning kind value).text f)
value_told U8 (natural n) f is so w p = digits_told f.conversion_type U8 _ _ _ so refl (unsigned_text-told f n w)
value_told U16 (natural n) f is so w p = digits_told f.conversion_type U16 _ _ _ so refl (unsigned_text-told f n w)
value_told U32 (natural n) f is so w p = digits_told f.conversion_type U32 _ _ _ so refl (unsigned_text-told f n w)
value_told U64 (natural n) f is so w p = digits_told f.conversion_type U64 _ _ _ so refl (unsigned_text-told f n w)
value_told Usize (natural n) f is so w p = digits_told f.conversion_type Usize _ _ _ so refl (unsigned_text-told f n w)
value_told I8 (integer z) f is so w p = digits_told f.conversion_type I8 _ _ _ so refl (signed_text-told f.conversion_type f z _ w)
value_told I16 (integer z) f is so w p = digits_told f.conversion_type I16 _ _ _ so refl (signed_text-told f.conversion_type f z _ w)
value_told I32 (integer z) f is so w p = digits_told f.conversion_type I32 _ _ _ so refl (signed_text-told f.conversion_type f z _ w)
value_told I64 (integer z) f is so w p = digits_told f.conversion_type I64 _ _ _ so refl (signed_text-told f.conversion_type f z _ w)
value_told Isize (integer z) f is so w p = digits_told f.conversion_type Isize _ _ _ so refl (signed_text-told f.conversion_type f z _ w)
value_told Word (word text) f is so w p = word_told f.conversion_type _ _ _ so (word_text-told f text w p)
value_told CharKind (character c) f is so w p = char_told f.conversion_type _ _ _ so (character_text-told f c w)
value_told _ _ f is so w p = absurd is

number : (kind : Kind) → ¬ (¬ (is_number kind ≡ true)) → is_number kind ≡ true
number kind h = elim (is_number kind) as (λ (b : Bool). ¬ (¬ (b ≡ true)) → b ≡ true) [ true ↦ λ k. refl | false ↦ λ k. absurd (k (λ e. cc)) ] h

-- a conversion that doesn't fail to go with the kind goes with it
converts : (conversion : ConversionType) (kind : Kind) → ¬ (¬ Converts conversion kind) → Converts conversion kind
converts DecInt kind h = number kind h
converts OctInt kind h = number kind h
converts HexIntLower kind h = number kind h
converts HexIntUpper kind h = number kind h
converts String Word h = refl
converts String _ h = absurd (h (λ e. cc))
converts Char CharKind h = refl
converts Char _ h = absurd (h (λ e. cc))
converts _ kind h = h (λ no. no)

pub paired : (c : Column) (kind : Kind) → ¬ (¬ IsPaired c kind) → IsPaired c kind
paired c kind h = (converts c.field.conversion_type kind (λ no. h (λ so. no so.0)), λ e. h (λ so. so.1 e), λ e. h (λ so. so.2 e))

param-literal : (p : NumericParam) (values : List Meaning) → IsLiteral p → param_of p values ≡ Ok p
param-literal (Literal z) values h = refl
param-literal FromArgument values h = absurd h

no_stars : (p : NumericParam) → IsLiteral p → stars p ≡ 0
no_stars (Literal z) h = refl
no_stars FromArgument h = absurd h

is_percent-sign : (conversion : ConversionType) → is_percent conversion ≡ true → conversion ≡ PercentSign
is_percent-sign PercentSign h = refl
is_percent-sign _ h = cc

-- a field without `*` takes one value, and prints its text
starless : (f : ConversionSpecifier) (v : Meaning) (values : List Meaning) → IsLiteral f.width → IsLiteral f.precision
    → then_with (param_of f.width (v ∷ values)) (λ width. then_with (param_of f.precision (drop (stars f.width) (v ∷ values))) (λ precision. value_text (record f { width = width; precision = precision }) (drop (stars f.precision) (drop (stars f.width) (v ∷ values))))) ≡ v.text f
starless f v values w p = rw (no_stars f.width w, no_stars f.precision p, param-literal f.width (v ∷ values) w, param-literal f.precision (v ∷ values) p) refl

by_starless : (conversion : ConversionType) (f : ConversionSpecifier) (v : Meaning) (values : List Meaning) → is_percent conversion ≡ false → IsLiteral f.width → IsLiteral f.precision → field_by conversion f (v ∷ values) ≡ v.text f
by_starless PercentSign f v values h w p = cc
by_starless _ f v values h w p = starless f v values w p

one_wanted : (conversion : ConversionType) (f : ConversionSpecifier) → is_percent conversion ≡ false → IsLiteral f.width → IsLiteral f.precision → wanted_by conversion f ≡ 1
one_wanted PercentSign f h w p = cc
one_wanted _ f h w p = rw (no_stars f.width w, no_stars f.precision p) refl

-- the elements print the text of their columns
abbrev Prints : List FormatElement → Type 0
Prints es = (kinds : List Kind) (values : List Datum) → Never IsUnpaired (columns_of es).columns kinds → AreFit (columns_of es).columns kinds values
    → printed es (each_of printf_meaning kinds values) ≡ Ok (row_text (columns_of es) kinds values)

prints_percent : (f : ConversionSpecifier) (es : List FormatElement) → is_percent f.conversion_type ≡ true → Prints es → (kinds : List Kind) (values : List Datum) → Never IsUnpaired (columns_of es).columns kinds → AreFit (columns_of es).columns kinds values
    → printed (Format f ∷ es) (each_of printf_meaning kinds values) ≡ Ok (row_text (with_text (codes "%") (columns_of es)) kinds values)
prints_percent f es h ih kinds values paired fit = rw (is_percent-sign f.conversion_type h, ih kinds values paired fit) refl

prints_field : (f : ConversionSpecifier) (es : List FormatElement) → is_percent f.conversion_type ≡ false → Prints es → (kinds : List Kind) (values : List Datum) → Never IsUnpaired (with_field f (columns_of es)).columns kinds → AreFit (with_field f (columns_of es)).columns kinds values
    → printed (Format f ∷ es) (each_of printf_meaning kinds values) ≡ Ok (row_text (with_field f (columns_of es)) kinds values)
prints_field f es h ih [] values pairs fit = absurd fit
prints_field f es h ih (kind ∷ kinds) [] pairs fit = absurd fit
prints_field f es h ih (kind ∷ kinds) (value ∷ values) pairs fit =
    let so = paired (record { field = f; after = (columns_of es).head }) kind pairs.0 in
    let w : IsLiteral f.width = is_literal f.width so.1 in
    let p : IsLiteral f.precision = is_literal f.precision so.2 in
    let told : IsTold ((printf_meaning kind value).text f) = value_told kind value f fit.0.0 so.0 w p in
    rw (by_starless f.conversion_type f (printf_meaning kind value) (each_of printf_meaning kinds values) h w p, one_wanted f.conversion_type f h w p, told, ih kinds values pairs.1 fit.1) refl

pub prints : PrintsColumns
prints [] [] [] pairs fit = refl
prints [] [] (value ∷ values) pairs fit = absurd fit
prints [] (kind ∷ kinds) values pairs fit = absurd (pairs tt)
prints (Verbatim s ∷ es) kinds values pairs fit = rw (prints es kinds values pairs fit) (ap Ok (sym (append_assoc s.now (columns_of es).head (columns_text (columns_of es).columns kinds values))))
prints (Format f ∷ es) kinds values pairs fit =
    elim (is_percent f.conversion_type) as (λ (b : Bool). is_percent f.conversion_type ≡ b → Never IsUnpaired (if b then with_text (codes "%") (columns_of es) else with_field f (columns_of es)).columns kinds → AreFit (if b then with_text (codes "%") (columns_of es) else with_field f (columns_of es)).columns kinds values
    → printed (Format f ∷ es) (each_of printf_meaning kinds values) ≡ Ok (row_text (if b then with_text (codes "%") (columns_of es) else with_field f (columns_of es)) kinds values)) [
      | true ↦ λ e. prints_percent f es e (prints es) kinds values
      | false ↦ λ e. prints_field f es e (prints es) kinds values
    ] refl pairs fit
