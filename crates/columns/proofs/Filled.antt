-- What fields print that zeros fill.
use Rattle.std.proofs.Common.{◌≡◌, ◌<◌, ◌≤◌, ◌^◌, ◌+◌, ◌-◌, ◌*◌, zero, suc, ℕ, Bool, true, false, if◌then◌else◌, List, [], ◌∷◌, ◌++◌, length, map, replicate, Some, Ok, sym, ap, subst, refl, ◌∙◌, ⊎_elim, arith, length-append}
use Rattle.std.specs.Char.{digit_value}
use Rattle.std.specs.Str.{byte}
use Rattle.std.specs.Str.Parse.{digits_value}
use Rattle.std.proofs.lemmas.Bool.{cases_lt}
use Rattle.std.proofs.lemmas.Bool.Decides.{nat_tests}
use Rattle.std.proofs.lemmas.List.{length-replicate}
use Rattle.std.proofs.lemmas.Str.{encode_ascii}
use Rattle.numerals.specs.Laws.{NumeralOfValue}
use Rattle.numerals.specs.Numeral.{numeral, text_value}
use Rattle.padding.specs.Field.{fills}
use Rattle.sprintf.specs.declared.parser.ConversionSpecifier.{ConversionSpecifier}
use Rattle.sprintf.specs.declared.parser.ConversionType.TheVariants.{DecInt}
use Rattle.sprintf.specs.Field.{number_of, number_text, unsigned_text, prefix_of}
use Rattle.values.specs.declared.kind.Kind.{Kind}
use Rattle.values.specs.Datum.{Datum, natural}
use Rattle.row_format.specs.Columns.{field_text}
use Rattle.row_format.specs.Fit.{IsFit}
use Rattle.columns.specs.Fields.{token_text}
use Rattle.columns.specs.Inner.Serves.{Serves, IsGreatest}
use Rattle.columns.specs.Inner.Shapes.{AreDigits, IsNatural, IsFilled}
use Rattle.columns.specs.declared.take.Take.TheVariants.{Filled}
use Rattle.columns.proofs.Fields.{digits_value-text_value, natural_text, no_prefix, unsigned_field, unsigned_datum, in_range}
use Rattle.tokens.specs.Tokens.{datum_at}

-- digits are zeros, and then digits without a zero in front of others
record ZerosInFront (base : ℕ) (upper : Bool) (text : List ℕ) (number : ℕ) : Type 0 where
  zeros : ℕ
  body : List ℕ
  whole : text ≡ replicate zeros 48 ++ body
  natural : IsNatural base upper body number

least_digit : (base c : ℕ) → base ≤ 16 → digit_value c < base → 48 ≤ c
least_digit base c high h = grind (arith, nat_tests)

value_behind_zero : (base x : ℕ) (rest : List ℕ) (number : ℕ) → x ≡ 48 → digits_value base (x ∷ rest) ≡ number → digits_value base rest ≡ number
value_behind_zero base x rest number e is =
    let none : digit_value x ≡ 0 = ap digit_value e in
    let less : text_value base (x ∷ rest) ≡ text_value base rest = omega (arith, ap (λ k. k * base ^ length (map digit_value rest)) none) in
    digits_value-text_value base rest ∙ sym less ∙ sym (digits_value-text_value base (x ∷ rest)) ∙ is

split_zeros : (base : ℕ) (upper : Bool) (text : List ℕ) (number : ℕ) → base ≤ 16 → 0 < length text → AreDigits base upper text number → ZerosInFront base upper text number
split_zeros base upper [] number high some is = absurd (omega (arith, some))
split_zeros base upper (x ∷ []) number high some is = record { zeros = 0; body = x ∷ []; whole = refl; natural = record { some = some; lead = λ more. absurd (omega (arith, more)); digits = is } }
split_zeros base upper (x ∷ y ∷ rest) number high some is = ⊎_elim
    (λ (small : x < 49).
    let e : x ≡ 48 = omega (arith, small, least_digit base x high is.digits.0) in
    let inner : ZerosInFront base upper (y ∷ rest) number = split_zeros base upper (y ∷ rest) number high (omega arith) (record { digits = is.digits.1; letters = is.letters.1; value = value_behind_zero base x (y ∷ rest) number e is.value }) in
    record { zeros = suc inner.zeros; body = inner.body; whole = λ i. e i ∷ inner.whole i; natural = inner.natural })
    (λ (great : 49 ≤ x). record { zeros = 0; body = x ∷ y ∷ rest; whole = refl; natural = record { some = some; lead = λ more same. absurd (omega (arith, same, great)); digits = is } })
    (cases_lt x 49)

zeros_are : (n : ℕ) → fills n (byte "0") ≡ replicate n 48
zeros_are zero = refl
zeros_are (suc n) = rw (encode_ascii 48 (omega arith)) (ap (λ (x : List ℕ). 48 ∷ x) (zeros_are n))

-- digits of a width are the numeral, which zeros fill
pub filled_is : NumeralOfValue → (base : ℕ) (upper : Bool) (text : List ℕ) (width number : ℕ) → 2 ≤ base → base ≤ 16 → IsFilled base upper width text number → number < 2 ^ 64 → text ≡ fills (width - length (numeral base upper number)) (byte "0") ++ numeral base upper number
filled_is law base upper text width number low high is small = ⊎_elim
    (λ (longer : width < length text).
    let plain : text ≡ numeral base upper number = natural_text law base upper text number low high (record { some = is.some; lead = is.lead longer; digits = is.digits }) small in
    let none : 0 ≡ width - length (numeral base upper number) = omega (arith, ap length plain, longer) in
    plain ∙ ap (λ k. fills k (byte "0") ++ numeral base upper number) none)
    (λ (within : length text ≤ width).
    let split : ZerosInFront base upper text number = split_zeros base upper text number high is.some is.digits in
    let body : split.body ≡ numeral base upper number = natural_text law base upper split.body number low high split.natural small in
    let len : length text ≡ split.zeros + length (numeral base upper number) = ap length split.whole ∙ length-append (replicate split.zeros 48) split.body ∙ omega (arith, length-replicate {A = ℕ} split.zeros 48, ap length body) in
    let room : split.zeros ≡ width - length (numeral base upper number) = omega (arith, len, within, is.wide) in
    split.whole ∙ ap (λ (t : List ℕ). replicate split.zeros 48 ++ t) body ∙ ap (λ (t : List ℕ). t ++ numeral base upper number) (sym (zeros_are split.zeros)) ∙ ap (λ k. fills k (byte "0") ++ numeral base upper number) room)
    (cases_lt width (length text))

zeros_by : (left zeros : Bool) (digits : List ℕ) (room : ℕ) → left ≡ false → zeros ≡ true
    → (if left then [] ++ digits ++ fills room (byte " ") else (if zeros then [] ++ fills room (byte "0") ++ digits else fills room (byte " ") ++ [] ++ digits)) ≡ fills room (byte "0") ++ digits
zeros_by true zeros digits room l e = cc
zeros_by false true digits room l e = refl
zeros_by false false digits room l e = cc

zero_number : (f : ConversionSpecifier) (n width : ℕ) → f.conversion_type ≡ DecInt → number_of f.width ≡ Some width → f.left_adj ≡ false → f.zero_pad ≡ true → number_text f [] n ≡ Ok (fills (width - length (numeral 10 false n)) (byte "0") ++ numeral 10 false n)
zero_number f n width decimal wide left zeros =
    let e : 0 + length (numeral 10 false n) ≡ length (numeral 10 false n) = omega arith in
    rw (wide, decimal) (ap Ok (zeros_by f.left_adj f.zero_pad (numeral 10 false n) _ left zeros ∙ ap (λ k. fills (width - k) (byte "0") ++ numeral 10 false n) e))

zero_unsigned : (f : ConversionSpecifier) (n width : ℕ) → f.conversion_type ≡ DecInt → number_of f.width ≡ Some width → f.left_adj ≡ false → f.zero_pad ≡ true → unsigned_text f n ≡ Ok (fills (width - length (numeral 10 false n)) (byte "0") ++ numeral 10 false n)
zero_unsigned f n width decimal wide left zeros =
    let lead : (if f.alt_form then prefix_of f.conversion_type else []) ≡ [] = rw decimal (no_prefix f.alt_form) in
    ap (λ (l : List ℕ). number_text f l n) lead ∙ zero_number f n width decimal wide left zeros

pub serves_filled : NumeralOfValue → (f : ConversionSpecifier) (kind : Kind) (after : List ℕ) (greatest width most : ℕ) → f.conversion_type ≡ DecInt → number_of f.width ≡ Some width → f.left_adj ≡ false → f.zero_pad ≡ true → IsGreatest kind greatest → Serves f kind after (Filled greatest width most)
serves_filled law f kind after greatest width most decimal wide left zeros is row token shape =
    let datum : datum_at kind row token ≡ natural token.number = unsigned_datum kind greatest row token is in
    let range = in_range kind greatest token.number is shape.1 in
    record {
      fit = subst (λ (d : Datum). IsFit (record { field = f; after = after }) kind d) (sym datum) (range.0, tt);
      text = filled_is law 10 false (token_text row token) width token.number (omega arith) (omega arith) shape.0 range.1
          ∙ sym (unsigned_field f kind greatest token.number (fills (width - length (numeral 10 false token.number)) (byte "0") ++ numeral 10 false token.number) decimal (zero_unsigned f token.number width decimal wide left zeros) is)
          ∙ ap (field_text f kind) (sym datum);
    }
