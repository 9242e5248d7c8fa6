-- What fields print of what is taken.
use Rattle.std.proofs.Common.{◌≡◌, ◌<◌, ◌≤◌, ◌^◌, ◌+◌, ℕ, Bool, true, false, if◌then◌else◌, List, [], ◌∷◌, ◌++◌, length, map, Some, Result, Ok, sym, ap, subst, refl, ◌*◌, ◌∙◌, arith}
use Rattle.std.proofs.lemmas.List.{append-nil}
use Rattle.std.specs.Char.{digit_value}
use Rattle.std.specs.Str.{byte}
use Rattle.std.specs.Str.Parse.{AllDigits, digits_value}
use Rattle.std.specs.Int.Digits.{number_from_digits_after}
use Rattle.std.proofs.Math.Nat.{pow-suc, pow-zero}
use Rattle.std.proofs.lemmas.Grind.{common_steps}
use Rattle.std.proofs.lemmas.Int.Digits.{digits_value_is}
use Rattle.numerals.specs.Laws.{NumeralOfValue}
use Rattle.numerals.specs.Numeral.{numeral, AllBelow, text_value, place_sum}
use Rattle.padding.specs.Field.{fills}
use Rattle.sprintf.specs.declared.PrintfError.{PrintfError}
use Rattle.sprintf.specs.declared.parser.ConversionSpecifier.{ConversionSpecifier}
use Rattle.sprintf.specs.declared.parser.ConversionType.{ConversionType}
use Rattle.sprintf.specs.declared.parser.ConversionType.TheVariants.{DecInt}
use Rattle.sprintf.specs.Field.{number_of, number_text, unsigned_text, prefix_of}
use Rattle.sprintf.specs.Meaning.{by_conversion}
use Rattle.values.specs.declared.kind.Kind.{Kind}
use Rattle.values.specs.declared.kind.Kind.TheVariants.{U8, U16, U32, U64, Usize}
use Rattle.values.specs.Datum.{Datum, natural, IsOfKind}
use Rattle.row_format.specs.Columns.{field_text}
use Rattle.row_format.specs.Inner.Elements.{text_or_none}
use Rattle.row_format.specs.Fit.{IsFit}
use Rattle.columns.specs.Fields.{token_text}
use Rattle.tokens.specs.Tokens.{datum_at}
use Rattle.columns.specs.Inner.Serves.{Serves, IsGreatest}
use Rattle.columns.specs.Inner.Shapes.{IsNatural}
use Rattle.columns.specs.declared.take.Take.TheVariants.{Natural}
use Rattle.tokens.specs.declared.Token.{Token}

-- std's words for digits, and those of numerals

number_after-place_sum : (b n : ℕ) (ds : List ℕ) → number_from_digits_after b n ds ≡ n * b ^ length ds + place_sum b ds
number_after-place_sum b n [] = grind (arith, common_steps, pow-zero b)
number_after-place_sum b n (d ∷ ds) =
    let ih : number_from_digits_after b (n * b + d) ds ≡ (n * b + d) * b ^ length ds + place_sum b ds = number_after-place_sum b (n * b + d) ds in
    rw (ih, pow-suc b (length ds)) (omega arith)

pub digits_value-text_value : (b : ℕ) (bs : List ℕ) → digits_value b bs ≡ text_value b bs
digits_value-text_value b bs = digits_value_is b bs ∙ number_after-place_sum b 0 (map digit_value bs) ∙ omega arith

pub below_digits : (b : ℕ) (bs : List ℕ) → AllDigits b bs → AllBelow b (map digit_value bs)
below_digits b [] h = tt
below_digits b (c ∷ cs) h = (h.0, below_digits b cs h.1)

-- digits without a zero in front of others are the numeral of what they stand for
pub natural_text : NumeralOfValue → (base : ℕ) (upper : Bool) (text : List ℕ) (number : ℕ) → 2 ≤ base → base ≤ 16 → IsNatural base upper text number → number < 2 ^ 64 → text ≡ numeral base upper number
natural_text law base upper text number low high is small =
    let value : text_value base text ≡ number = sym (digits_value-text_value base text) ∙ is.digits.value in
    law base upper text low high (is.some, below_digits base text is.digits.digits) is.digits.letters is.lead (omega (arith, value, small)) ∙ ap (numeral base upper) value

-- without a width nothing is filled
pub filled_by : (left zeros : Bool) (lead digits : List ℕ) (room : ℕ) → room ≡ 0
    → (if left then lead ++ digits ++ fills room (byte " ") else (if zeros then lead ++ fills room (byte "0") ++ digits else fills room (byte " ") ++ lead ++ digits)) ≡ lead ++ digits
filled_by true zeros lead digits room e = rw e (append-nil (lead ++ digits))
filled_by false true lead digits room e = rw e (ap (λ (t : List ℕ). t ++ digits) (append-nil lead))
filled_by false false lead digits room e = rw e refl

pub bare_number : (f : ConversionSpecifier) (lead : List ℕ) (n : ℕ) → f.conversion_type ≡ DecInt → number_of f.width ≡ Some 0 → number_text f lead n ≡ Ok (lead ++ numeral 10 false n)
bare_number f lead n decimal width = rw (width, decimal) (ap Ok (filled_by f.left_adj f.zero_pad lead (numeral 10 false n) _ (omega arith)))

pub no_prefix : (alternate : Bool) → (if alternate then prefix_of DecInt else []) ≡ []
no_prefix true = refl
no_prefix false = refl

pub bare_unsigned : (f : ConversionSpecifier) (n : ℕ) → f.conversion_type ≡ DecInt → number_of f.width ≡ Some 0 → unsigned_text f n ≡ Ok (numeral 10 false n)
bare_unsigned f n decimal width =
    let lead : (if f.alt_form then prefix_of f.conversion_type else []) ≡ [] = rw decimal (no_prefix f.alt_form) in
    ap (λ (l : List ℕ). number_text f l n) lead ∙ bare_number f [] n decimal width

pub by_decimal : (conversion : ConversionType) (digits character word : Result (List ℕ) PrintfError) → conversion ≡ DecInt → by_conversion conversion digits character word ≡ digits
by_decimal conversion digits character word decimal = ap (λ (k : ConversionType). by_conversion k digits character word) decimal

told_unsigned : (f : ConversionSpecifier) (n : ℕ) (text : List ℕ) (character word : Result (List ℕ) PrintfError) → f.conversion_type ≡ DecInt → unsigned_text f n ≡ Ok text → text_or_none (by_conversion f.conversion_type (unsigned_text f n) character word) ≡ text
told_unsigned f n text character word decimal is = ap text_or_none (by_decimal f.conversion_type (unsigned_text f n) character word decimal ∙ is)

-- the field of a kind without signs prints the text of an unsigned number
pub unsigned_field : (f : ConversionSpecifier) (kind : Kind) (greatest n : ℕ) (text : List ℕ) → f.conversion_type ≡ DecInt → unsigned_text f n ≡ Ok text → IsGreatest kind greatest → field_text f kind (natural n) ≡ text
unsigned_field f U8 greatest n text decimal told is = told_unsigned f n text _ _ decimal told
unsigned_field f U16 greatest n text decimal told is = told_unsigned f n text _ _ decimal told
unsigned_field f U32 greatest n text decimal told is = told_unsigned f n text _ _ decimal told
unsigned_field f U64 greatest n text decimal told is = told_unsigned f n text _ _ decimal told
unsigned_field f Usize greatest n text decimal told is = told_unsigned f n text _ _ decimal told
unsigned_field f _ greatest n text decimal told is = absurd is

pub unsigned_datum : (kind : Kind) (greatest : ℕ) (row : List ℕ) (token : Token) → IsGreatest kind greatest → datum_at kind row token ≡ natural token.number
unsigned_datum U8 greatest row token is = refl
unsigned_datum U16 greatest row token is = refl
unsigned_datum U32 greatest row token is = refl
unsigned_datum U64 greatest row token is = refl
unsigned_datum Usize greatest row token is = refl
unsigned_datum _ greatest row token is = absurd is

pub in_range : (kind : Kind) (greatest n : ℕ) → IsGreatest kind greatest → n ≤ greatest → IsOfKind kind (natural n) × (n < 2 ^ 64)
in_range U8 greatest n is le = (omega (arith, is, le), omega (arith, is, le))
in_range U16 greatest n is le = (omega (arith, is, le), omega (arith, is, le))
in_range U32 greatest n is le = (omega (arith, is, le), omega (arith, is, le))
in_range U64 greatest n is le = (omega (arith, is, le), omega (arith, is, le))
in_range Usize greatest n is le = (omega (arith, is, le), omega (arith, is, le))
in_range _ greatest n is le = absurd is

pub serves_natural : NumeralOfValue → (f : ConversionSpecifier) (kind : Kind) (after : List ℕ) (greatest : ℕ) → f.conversion_type ≡ DecInt → number_of f.width ≡ Some 0 → IsGreatest kind greatest → Serves f kind after (Natural greatest)
serves_natural law f kind after greatest decimal width is row token shape =
    let datum : datum_at kind row token ≡ natural token.number = unsigned_datum kind greatest row token is in
    let range = in_range kind greatest token.number is shape.1 in
    record {
      fit = subst (λ (d : Datum). IsFit (record { field = f; after = after }) kind d) (sym datum) (range.0, tt);
      text = natural_text law 10 false (token_text row token) token.number (omega arith) (omega arith) shape.0 range.1 ∙ sym (unsigned_field f kind greatest token.number (numeral 10 false token.number) decimal (bare_unsigned f token.number decimal width) is) ∙ ap (field_text f kind) (sym datum);
    }
