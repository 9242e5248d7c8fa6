-- A number in base 8, which a decimal field takes.
use Rattle.std.proofs.Common.{◌≡◌, ◌<◌, ◌≤◌, ◌+◌, ◌-◌, ◌^◌, ℕ, Bool, true, false, List, [], ◌∷◌, ◌++◌, length, replicate, Option, refl, arith}
use Rattle.std.specs.Str.Parse.{without_leading_plus}
use Rattle.numerals.specs.Numeral.{numeral, IsDigitText, text_value}
use Rattle.sprintf.specs.declared.parser.ConversionType.TheVariants.{OctInt}
use Rattle.scan_fmt.specs.Grammar.{Number, Decimal}
use Rattle.scan_fmt.specs.Scanned.{IsSigned}
use Rattle.values.specs.declared.kind.Kind.{Kind}
use Rattle.values.specs.Datum.{Datum}
use Rattle.row_format.specs.Row.{Reads}
use Rattle.row_laws.specs.Inner.Directives.{limit_when}
use Rattle.row_laws.proofs.Fields.Longest.{decimal_longest}
use Rattle.row_laws.proofs.Fields.Digits.{Body, numeral_body, zeros_body, body_stands, digits_up, digits_signed, digits_kept}
use Rattle.row_laws.proofs.Fields.Shown.{Standing}
use Rattle.row_laws.proofs.Fields.Layout.{filled, when, Parts, number_standing}
use Rattle.row_laws.proofs.Fields.Decimal.{Exact, full_from}

zeros_before : (n z : ℕ) → n < 2 ^ 128 → Body 8 n (replicate z 48 ++ numeral 8 false n)
zeros_before n z small = zeros_body 8 n z (numeral 8 false n) (omega arith) (numeral_body 8 n false (omega arith) (omega arith) small)

abbrev prefixed : ℕ → ℕ → List ℕ
prefixed n z = 48 ∷ (replicate z 48 ++ numeral 8 false n)

prefix_before : (n z : ℕ) → n < 2 ^ 128 → Body 8 n (prefixed n z)
prefix_before n z small = zeros_body 8 n 1 (replicate z 48 ++ numeral 8 false n) (omega arith) (zeros_before n z small)

module _ (n : ℕ) (wide : n < 2 ^ 128) (Q : List ℕ → Type 0) (stands : (t : List ℕ) → IsDigitText 8 t × (text_value 8 t ≡ n) → Q t) where
  reads : (t : List ℕ) → Body 8 n t → Q (without_leading_plus t)
  reads t b = rw (digits_kept t (digits_up 8 10 t (omega arith) b.each)) (stands t (body_stands 8 n t b))

  parts : Parts IsSigned (λ t. Q (without_leading_plus t)) [] [] (numeral 8 false n)
  parts = record {
    front_plain = tt;
    mid_plain = tt;
    each = λ z. digits_up 8 16 _ (omega arith) (zeros_before n z wide).each;
    some = (numeral_body 8 n false (omega arith) (omega arith) wide).some;
    shape = λ z. digits_signed _ (digits_up 8 10 _ (omega arith) (zeros_before n z wide).each);
    reads = λ z. reads _ (zeros_before n z wide);
  }

  prefix_parts : Parts IsSigned (λ t. Q (without_leading_plus t)) [] (48 ∷ []) (numeral 8 false n)
  prefix_parts = record {
    front_plain = tt;
    mid_plain = ((omega arith, refl), tt);
    each = λ z. digits_up 8 16 _ (omega arith) (zeros_before n z wide).each;
    some = (numeral_body 8 n false (omega arith) (omega arith) wide).some;
    shape = λ z. digits_signed (prefixed n z) (digits_up 8 10 (prefixed n z) (omega arith) (prefix_before n z wide).each);
    reads = λ z. reads (prefixed n z) (prefix_before n z wide);
  }

pub octal : (kind : Kind) (value : Datum) (n : ℕ) (exact : Bool) (end : Option ℕ) (alt left pads space : Bool) (width digits : ℕ) → n < 2 ^ 128 → ((t : List ℕ) → IsDigitText 8 t × (text_value 8 t ≡ n) → Reads OctInt kind t value)
    → length (numeral 8 false n) ≤ digits → (exact ≡ true → Exact left pads space (length (when alt (48 ∷ [])) + digits) width)
    → Standing OctInt kind value exact end [] (Number Decimal (limit_when exact width)) (filled left pads (width - (length (when alt (48 ∷ [])) + length (numeral 8 false n))) (when alt (48 ∷ [])) (numeral 8 false n))
octal kind value n exact end false left pads space width digits wide stands most is =
    number_standing OctInt kind value exact end (Number Decimal (limit_when exact width)) IsSigned left pads width width 0 [] [] (numeral 8 false n) (parts n wide (λ t. Reads OctInt kind t value) stands)
    (decimal_longest exact width) (λ e. full_from left pads space _ _ width (omega (arith, most)) (is e)) (omega arith)
octal kind value n exact end true left pads space width digits wide stands most is =
    number_standing OctInt kind value exact end (Number Decimal (limit_when exact width)) IsSigned left pads width width 0 [] (48 ∷ []) (numeral 8 false n) (prefix_parts n wide (λ t. Reads OctInt kind t value) stands)
    (decimal_longest exact width) (λ e. full_from left pads space _ _ width (omega (arith, most)) (is e)) (omega arith)
