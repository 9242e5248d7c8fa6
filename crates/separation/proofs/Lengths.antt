-- The greatest lengths of numbers' texts.
use Rattle.std.proofs.Common.{◌≡◌, ◌<◌, ◌≤◌, ◌+◌, ◌-◌, ◌^◌, ℕ, suc, ℤ, pos, negsuc, Bool, true, false, cond, List, [], ◌∷◌, length, FitsSigned, sym, ap, refl, ◌∙◌, arith, unsigned_abs}
use Rattle.std.specs.Int.{Width, w8, w16, w32, w64}
use Rattle.std.specs.Char.{digit_value}
use mir.Val.{bits, hbits}
use Rattle.numerals.specs.Numeral.{numeral}
use Rattle.numerals.proofs.Steps.{length-numeral-fits}
use Rattle.sprintf.specs.declared.parser.ConversionSpecifier.{ConversionSpecifier}
use Rattle.sprintf.specs.declared.parser.ConversionType.{ConversionType}
use Rattle.sprintf.specs.declared.parser.ConversionType.TheVariants.{DecInt, OctInt, HexIntLower, HexIntUpper}
use Rattle.sprintf.specs.Field.{prefix_of, digits_of, sign_of}
use Rattle.values.specs.declared.kind.Kind.{Kind}
use Rattle.row_format.specs.Plannable.{is_signed, by_bits, greatest_digits, greatest_length}
use Rattle.separation.specs.Inner.Table.{is_signed_decimal}
use Rattle.separation.proofs.Sorts.{IsDigits, width_of_kind, four, decimal_is}

-- the text begins with a decimal digit
abbrev pub HeadDigit : List ℕ → Type 0
HeadDigit [] = ⊥
HeadDigit (c ∷ cs) = digit_value c < 10

-- every number below 2 ^ bits has at most so many digits
abbrev Most : ℕ → Bool → Width → ℕ → Type 0
Most b upper w most = (n : ℕ) → n < 2 ^ bits w → length (numeral b upper n) ≤ most

most_by : (b most : ℕ) (upper : Bool) (w : Width) → 2 ≤ b → 0 < most → 2 ^ bits w ≤ b ^ most → 2 ^ bits w ≤ 2 ^ 128 → Most b upper w most
most_by b most upper w low some room wide n small = length-numeral-fits b n most upper low (omega arith) some (omega arith)

dec_most : (kind : Kind) → Most 10 false (width_of_kind kind) (by_bits 3 5 10 20 kind)
dec_most kind = four (Most 10 false) 3 5 10 20
    (most_by 10 3 false w8 (omega arith) (omega arith) (omega arith) (omega arith)) (most_by 10 5 false w16 (omega arith) (omega arith) (omega arith) (omega arith))
    (most_by 10 10 false w32 (omega arith) (omega arith) (omega arith) (omega arith)) (most_by 10 20 false w64 (omega arith) (omega arith) (omega arith) (omega arith)) kind

oct_most : (kind : Kind) → Most 8 false (width_of_kind kind) (by_bits 3 6 11 22 kind)
oct_most kind = four (Most 8 false) 3 6 11 22
    (most_by 8 3 false w8 (omega arith) (omega arith) (omega arith) (omega arith)) (most_by 8 6 false w16 (omega arith) (omega arith) (omega arith) (omega arith))
    (most_by 8 11 false w32 (omega arith) (omega arith) (omega arith) (omega arith)) (most_by 8 22 false w64 (omega arith) (omega arith) (omega arith) (omega arith)) kind

hex_most : (upper : Bool) (kind : Kind) → Most 16 upper (width_of_kind kind) (by_bits 2 4 8 16 kind)
hex_most upper kind = four (Most 16 upper) 2 4 8 16
    (most_by 16 2 upper w8 (omega arith) (omega arith) (omega arith) (omega arith)) (most_by 16 4 upper w16 (omega arith) (omega arith) (omega arith) (omega arith))
    (most_by 16 8 upper w32 (omega arith) (omega arith) (omega arith) (omega arith)) (most_by 16 16 upper w64 (omega arith) (omega arith) (omega arith) (omega arith)) kind

unsigned_digits : (a b : ℕ) (signed : Bool) → signed ≡ false → cond signed a b ≡ b
unsigned_digits a b signed e = ap (λ t. cond t a b) e

-- the digits of a number that isn't a signed decimal
pub bits_most : (v : ConversionType) (kind : Kind) (n : ℕ) → IsDigits v → is_signed_decimal v kind ≡ false → n < 2 ^ bits (width_of_kind kind) → length (digits_of v n) ≤ greatest_digits v kind
bits_most DecInt kind n digits other small = omega (arith, dec_most kind n small, unsigned_digits (by_bits 4 6 11 20 kind) (by_bits 3 5 10 20 kind) (is_signed kind) other)
bits_most OctInt kind n digits other small = oct_most kind n small
bits_most HexIntLower kind n digits other small = hex_most false kind n small
bits_most HexIntUpper kind n digits other small = hex_most true kind n small
bits_most _ kind n digits other small = absurd digits

-- just so many digits, and one of them in front
abbrev Long : ℕ → Bool → (Width → ℕ) → Width → ℕ → Type 0
Long b upper number w most = (number w < 2 ^ bits w) × (length (numeral b upper (number w)) ≡ most) × HeadDigit (numeral b upper (number w))

abbrev last : Width → ℕ
last w = 2 ^ bits w - 1

abbrev high : Width → ℕ
high w = 2 ^ (bits w - 4)

dec_long : (kind : Kind) → Long 10 false last (width_of_kind kind) (by_bits 3 5 10 20 kind)
unfolding numeral
dec_long kind = four (Long 10 false last) 3 5 10 20 (omega arith, refl, omega arith) (omega arith, refl, omega arith) (omega arith, refl, omega arith) (omega arith, refl, omega arith) kind

oct_long : (kind : Kind) → Long 8 false last (width_of_kind kind) (by_bits 3 6 11 22 kind)
unfolding numeral
oct_long kind = four (Long 8 false last) 3 6 11 22 (omega arith, refl, omega arith) (omega arith, refl, omega arith) (omega arith, refl, omega arith) (omega arith, refl, omega arith) kind

hex_long : (upper : Bool) (kind : Kind) → Long 16 upper high (width_of_kind kind) (by_bits 2 4 8 16 kind)
unfolding numeral
hex_long true kind = four (Long 16 true high) 2 4 8 16 (omega arith, refl, omega arith) (omega arith, refl, omega arith) (omega arith, refl, omega arith) (omega arith, refl, omega arith) kind
hex_long false kind = four (Long 16 false high) 2 4 8 16 (omega arith, refl, omega arith) (omega arith, refl, omega arith) (omega arith, refl, omega arith) (omega arith, refl, omega arith) kind

-- a number with the most digits
pub record LongBits (v : ConversionType) (kind : Kind) : Type 0 where
  pub n : ℕ
  pub small : n < 2 ^ bits (width_of_kind kind)
  pub full : length (digits_of v n) ≡ greatest_digits v kind
  pub head : HeadDigit (digits_of v n)

pub bits_long : (v : ConversionType) (kind : Kind) → IsDigits v → is_signed_decimal v kind ≡ false → LongBits v kind
bits_long DecInt kind digits other = let it = dec_long kind in
    record { n = last (width_of_kind kind); small = it.0; full = it.1 ∙ sym (unsigned_digits (by_bits 4 6 11 20 kind) (by_bits 3 5 10 20 kind) (is_signed kind) other); head = it.2 }
bits_long OctInt kind digits other = let it = oct_long kind in record { n = last (width_of_kind kind); small = it.0; full = it.1; head = it.2 }
bits_long HexIntLower kind digits other = let it = hex_long false kind in record { n = high (width_of_kind kind); small = it.0; full = it.1; head = it.2 }
bits_long HexIntUpper kind digits other = let it = hex_long true kind in record { n = high (width_of_kind kind); small = it.0; full = it.1; head = it.2 }
bits_long _ kind digits other = absurd digits

-- the digits of the absolute values of signed numbers
abbrev MostSigned : Width → ℕ → Type 0
MostSigned w most = (n : ℕ) → n ≤ 2 ^ hbits w → length (numeral 10 false n) + 1 ≤ most

signed_most : (kind : Kind) → MostSigned (width_of_kind kind) (by_bits 4 6 11 20 kind)
signed_most kind = four MostSigned 4 6 11 20
    (λ n h. omega (arith, length-numeral-fits 10 n 3 false (omega arith) (omega arith) (omega arith) (omega arith)))
    (λ n h. omega (arith, length-numeral-fits 10 n 5 false (omega arith) (omega arith) (omega arith) (omega arith)))
    (λ n h. omega (arith, length-numeral-fits 10 n 10 false (omega arith) (omega arith) (omega arith) (omega arith)))
    (λ n h. omega (arith, length-numeral-fits 10 n 19 false (omega arith) (omega arith) (omega arith) (omega arith))) kind

-- the greatest and the least signed number
abbrev LongSigned : Width → ℕ → Type 0
LongSigned w most = (0 < 2 ^ hbits w) × (length (numeral 10 false (2 ^ hbits w - 1)) + 1 ≡ most) × HeadDigit (numeral 10 false (2 ^ hbits w - 1)) × (length (numeral 10 false (suc (2 ^ hbits w - 1))) + 1 ≡ most)

pub signed_long : (kind : Kind) → LongSigned (width_of_kind kind) (by_bits 4 6 11 20 kind)
unfolding numeral
signed_long kind = four LongSigned 4 6 11 20 (omega arith, refl, omega arith, refl) (omega arith, refl, omega arith, refl) (omega arith, refl, omega arith, refl) (omega arith, refl, omega arith, refl) kind

-- a signed decimal's greatest length
no_prefix : (v : ConversionType) (alt : Bool) → v ≡ DecInt → length (cond alt (prefix_of v) []) ≡ 0
no_prefix v true e = ap (λ t. length (prefix_of t)) e
no_prefix v false e = refl

pub decimal_greatest : (f : ConversionSpecifier) (kind : Kind) → is_signed_decimal f.conversion_type kind ≡ true → greatest_length f kind ≡ by_bits 4 6 11 20 kind
decimal_greatest f kind h =
    let it = decimal_is f.conversion_type kind h in
    let digits : greatest_digits f.conversion_type kind ≡ by_bits 4 6 11 20 kind = ap (λ v. greatest_digits v kind) it.0 ∙ ap (λ t. cond t (by_bits 4 6 11 20 kind) (by_bits 3 5 10 20 kind)) it.1 in
    omega (arith, digits, no_prefix f.conversion_type f.alt_form it.0)

plus_length : (plus space : Bool) → length {A = ℕ} (cond plus (43 ∷ []) (cond space (32 ∷ []) [])) ≤ 1
plus_length true space = omega arith
plus_length false true = omega arith
plus_length false false = omega arith

pub digits_decimal : (v : ConversionType) (n : ℕ) → v ≡ DecInt → digits_of v n ≡ numeral 10 false n
digits_decimal v n e = ap (λ t. digits_of t n) e

pub decimal_most : (f : ConversionSpecifier) (kind : Kind) (z : ℤ) → is_signed_decimal f.conversion_type kind ≡ true → FitsSigned (width_of_kind kind) z
    → length (sign_of f z) + length (digits_of f.conversion_type (unsigned_abs z)) ≤ greatest_length f kind
decimal_most f kind (pos n) h small =
    let digits : length (digits_of f.conversion_type n) ≡ length (numeral 10 false n) = ap length (digits_decimal f.conversion_type n (decimal_is f.conversion_type kind h).0) in
    omega (arith, plus_length f.force_sign f.space_sign, digits, signed_most kind n (omega (arith, small.sfits)), decimal_greatest f kind h)
decimal_most f kind (negsuc n) h small =
    let digits : length (digits_of f.conversion_type (suc n)) ≡ length (numeral 10 false (suc n)) = ap length (digits_decimal f.conversion_type (suc n) (decimal_is f.conversion_type kind h).0) in
    omega (arith, digits, signed_most kind (suc n) (omega (arith, small.sfits)), decimal_greatest f kind h)

-- a number without a sign leaves room at the greatest length
pub decimal_room : (f : ConversionSpecifier) (kind : Kind) (n : ℕ) → is_signed_decimal f.conversion_type kind ≡ true → FitsSigned (width_of_kind kind) (pos n)
    → length (digits_of f.conversion_type n) + 1 ≤ greatest_length f kind
decimal_room f kind n h small =
    let digits : length (digits_of f.conversion_type n) ≡ length (numeral 10 false n) = ap length (digits_decimal f.conversion_type n (decimal_is f.conversion_type kind h).0) in
    omega (arith, digits, signed_most kind n (omega (arith, small.sfits)), decimal_greatest f kind h)

-- the least number is as long as can be
pub record Least (f : ConversionSpecifier) (kind : Kind) : Type 0 where
  pub z : ℤ
  pub fits : FitsSigned (width_of_kind kind) z
  pub negative : sign_of f z ≡ 45 ∷ []
  pub full : length (sign_of f z) + length (digits_of f.conversion_type (unsigned_abs z)) ≡ greatest_length f kind

pub decimal_least : (f : ConversionSpecifier) (kind : Kind) → is_signed_decimal f.conversion_type kind ≡ true → Least f kind
decimal_least f kind h =
    let long = signed_long kind in
    let n = 2 ^ hbits (width_of_kind kind) - 1 in
    let same : length (digits_of f.conversion_type (suc n)) + 1 ≡ greatest_length f kind =
    ap (λ (t : List ℕ). length t + 1) (digits_decimal f.conversion_type (suc n) (decimal_is f.conversion_type kind h).0) ∙ long.3 ∙ sym (decimal_greatest f kind h) in
    record { z = negsuc n; fits = record { sfits = omega (arith, long.0) }; negative = refl; full = omega (arith, same) }
