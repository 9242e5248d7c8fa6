-- The digits of a kind's numbers are no longer than the table says, and the numbers fit.
use Rattle.std.proofs.Common.{◌≡◌, ◌<◌, ◌≤◌, ◌+◌, ◌-◌, ◌^◌, ℕ, suc, ℤ, pos, negsuc, Bool, true, false, length, ⊎_elim, refl, arith, FitsSigned, w8, w16, w32, w64}
use Rattle.std.proofs.Math.Nat.{pow-le-pow_right}
use Rattle.std.proofs.Math.Facts.{Fits-of_z}
use Rattle.std.specs.Int.{cast_unsigned}
use Rattle.numerals.specs.Numeral.{numeral}
use Rattle.numerals.proofs.Unique.{le_or_lt, length-numeral, numeral-ge}
use Rattle.sprintf.specs.declared.parser.ConversionType.TheVariants.{DecInt, OctInt}
use Rattle.values.specs.declared.kind.Kind.{Kind}
use Rattle.values.specs.declared.kind.Kind.TheVariants.{U8, U16, U32, U64, Usize, I8, I16, I32, I64, Isize, Word, Char}
use Rattle.values.specs.Datum.{natural, integer, IsOfKind}
use Rattle.row_format.specs.Plannable.{is_number, by_bits, greatest_digits}

-- a number below b ^ (k + 1) has at most k + 1 digits
numeral_length : (k b n : ℕ) (upper : Bool) → 2 ≤ b → n < 2 ^ 128 → n < b ^ suc k → length (numeral b upper n) ≤ suc k
numeral_length k b n upper low wide small =
    let it = length-numeral b n upper low wide in
    ⊎_elim
    (λ fine. omega (arith, fine, it.2))
    (λ more.
    let top : b ^ suc k ≤ b ^ (length it.0 - 1) = pow-le-pow_right (omega (arith, low)) (omega (arith, more)) in
    absurd (omega (arith, top, small, numeral-ge b n it.0 it.1 (omega (arith, more)))))
    (le_or_lt (length it.0) (suc k))

-- the number without a sign, and its bound

pub natural_number : (kind : Kind) (n : ℕ) → IsOfKind kind (natural n) → is_number kind ≡ true
natural_number U8 n h = refl
natural_number U16 n h = refl
natural_number U32 n h = refl
natural_number U64 n h = refl
natural_number Usize n h = refl
natural_number I8 n h = absurd h
natural_number I16 n h = absurd h
natural_number I32 n h = absurd h
natural_number I64 n h = absurd h
natural_number Isize n h = absurd h
natural_number Word n h = absurd h
natural_number Char n h = absurd h

pub natural_fits : (kind : Kind) (n : ℕ) → IsOfKind kind (natural n) → n < 2 ^ by_bits 8 16 32 64 kind
natural_fits U8 n h = h
natural_fits U16 n h = h
natural_fits U32 n h = h
natural_fits U64 n h = h
natural_fits Usize n h = h
natural_fits I8 n h = absurd h
natural_fits I16 n h = absurd h
natural_fits I32 n h = absurd h
natural_fits I64 n h = absurd h
natural_fits Isize n h = absurd h
natural_fits Word n h = absurd h
natural_fits Char n h = absurd h

pub by_bits_wide : (kind : Kind) (n : ℕ) → n < 2 ^ by_bits 8 16 32 64 kind → n < 2 ^ 128
by_bits_wide U8 n h = omega (arith, h)
by_bits_wide U16 n h = omega (arith, h)
by_bits_wide U32 n h = omega (arith, h)
by_bits_wide U64 n h = omega (arith, h)
by_bits_wide Usize n h = omega (arith, h)
by_bits_wide I8 n h = omega (arith, h)
by_bits_wide I16 n h = omega (arith, h)
by_bits_wide I32 n h = omega (arith, h)
by_bits_wide I64 n h = omega (arith, h)
by_bits_wide Isize n h = omega (arith, h)
by_bits_wide Word n h = omega (arith, h)
by_bits_wide Char n h = omega (arith, h)

pub decimal_width : (kind : Kind) (n : ℕ) → IsOfKind kind (natural n) → length (numeral 10 false n) ≤ greatest_digits DecInt kind
decimal_width U8 n h = numeral_length 2 10 n false (omega arith) (omega (arith, h)) (omega (arith, h))
decimal_width U16 n h = numeral_length 4 10 n false (omega arith) (omega (arith, h)) (omega (arith, h))
decimal_width U32 n h = numeral_length 9 10 n false (omega arith) (omega (arith, h)) (omega (arith, h))
decimal_width U64 n h = numeral_length 19 10 n false (omega arith) (omega (arith, h)) (omega (arith, h))
decimal_width Usize n h = numeral_length 19 10 n false (omega arith) (omega (arith, h)) (omega (arith, h))
decimal_width I8 n h = absurd h
decimal_width I16 n h = absurd h
decimal_width I32 n h = absurd h
decimal_width I64 n h = absurd h
decimal_width Isize n h = absurd h
decimal_width Word n h = absurd h
decimal_width Char n h = absurd h

pub octal_width : (kind : Kind) (n : ℕ) → n < 2 ^ by_bits 8 16 32 64 kind → length (numeral 8 false n) ≤ greatest_digits OctInt kind
octal_width U8 n h = numeral_length 2 8 n false (omega arith) (omega (arith, h)) (omega (arith, h))
octal_width U16 n h = numeral_length 5 8 n false (omega arith) (omega (arith, h)) (omega (arith, h))
octal_width U32 n h = numeral_length 10 8 n false (omega arith) (omega (arith, h)) (omega (arith, h))
octal_width U64 n h = numeral_length 21 8 n false (omega arith) (omega (arith, h)) (omega (arith, h))
octal_width Usize n h = numeral_length 21 8 n false (omega arith) (omega (arith, h)) (omega (arith, h))
octal_width I8 n h = numeral_length 2 8 n false (omega arith) (omega (arith, h)) (omega (arith, h))
octal_width I16 n h = numeral_length 5 8 n false (omega arith) (omega (arith, h)) (omega (arith, h))
octal_width I32 n h = numeral_length 10 8 n false (omega arith) (omega (arith, h)) (omega (arith, h))
octal_width I64 n h = numeral_length 21 8 n false (omega arith) (omega (arith, h)) (omega (arith, h))
octal_width Isize n h = numeral_length 21 8 n false (omega arith) (omega (arith, h)) (omega (arith, h))
octal_width Word n h = numeral_length 2 8 n false (omega arith) (omega (arith, h)) (omega (arith, h))
octal_width Char n h = numeral_length 2 8 n false (omega arith) (omega (arith, h)) (omega (arith, h))

pub hexadecimal_width : (kind : Kind) (n : ℕ) (upper : Bool) → n < 2 ^ by_bits 8 16 32 64 kind → length (numeral 16 upper n) ≤ by_bits 2 4 8 16 kind
hexadecimal_width U8 n upper h = numeral_length 1 16 n upper (omega arith) (omega (arith, h)) (omega (arith, h))
hexadecimal_width U16 n upper h = numeral_length 3 16 n upper (omega arith) (omega (arith, h)) (omega (arith, h))
hexadecimal_width U32 n upper h = numeral_length 7 16 n upper (omega arith) (omega (arith, h)) (omega (arith, h))
hexadecimal_width U64 n upper h = numeral_length 15 16 n upper (omega arith) (omega (arith, h)) (omega (arith, h))
hexadecimal_width Usize n upper h = numeral_length 15 16 n upper (omega arith) (omega (arith, h)) (omega (arith, h))
hexadecimal_width I8 n upper h = numeral_length 1 16 n upper (omega arith) (omega (arith, h)) (omega (arith, h))
hexadecimal_width I16 n upper h = numeral_length 3 16 n upper (omega arith) (omega (arith, h)) (omega (arith, h))
hexadecimal_width I32 n upper h = numeral_length 7 16 n upper (omega arith) (omega (arith, h)) (omega (arith, h))
hexadecimal_width I64 n upper h = numeral_length 15 16 n upper (omega arith) (omega (arith, h)) (omega (arith, h))
hexadecimal_width Isize n upper h = numeral_length 15 16 n upper (omega arith) (omega (arith, h)) (omega (arith, h))
hexadecimal_width Word n upper h = numeral_length 1 16 n upper (omega arith) (omega (arith, h)) (omega (arith, h))
hexadecimal_width Char n upper h = numeral_length 1 16 n upper (omega arith) (omega (arith, h)) (omega (arith, h))

-- the number with a sign

-- what is known of a number with a sign by its kind
pub record Signed (kind : Kind) (z : ℤ) : Type 0 where
  pub number : is_number kind ≡ true
  pub fits : FitsSigned (by_bits w8 w16 w32 w64 kind) z
  pub complement : cast_unsigned (by_bits w8 w16 w32 w64 kind) z < 2 ^ by_bits 8 16 32 64 kind

pub signed : (kind : Kind) (z : ℤ) → IsOfKind kind (integer z) → Signed kind z
signed I8 z h = record { number = refl; fits = h; complement = (Fits-of_z {w = w8} {z = z} h).fits }
signed I16 z h = record { number = refl; fits = h; complement = (Fits-of_z {w = w16} {z = z} h).fits }
signed I32 z h = record { number = refl; fits = h; complement = (Fits-of_z {w = w32} {z = z} h).fits }
signed I64 z h = record { number = refl; fits = h; complement = (Fits-of_z {w = w64} {z = z} h).fits }
signed Isize z h = record { number = refl; fits = h; complement = (Fits-of_z {w = w64} {z = z} h).fits }
signed U8 z h = absurd h
signed U16 z h = absurd h
signed U32 z h = absurd h
signed U64 z h = absurd h
signed Usize z h = absurd h
signed Word z h = absurd h
signed Char z h = absurd h

-- its absolute value is below 2 ^ 128, and with the sign no longer than the table says
abbrev Short : Kind → ℕ → Type 0
Short kind n = (n < 2 ^ 128) × (length (numeral 10 false n) + 1 ≤ greatest_digits DecInt kind)

short : (kind : Kind) (k n : ℕ) → n < 2 ^ 128 → n < 10 ^ suc k → suc k + 1 ≤ greatest_digits DecInt kind → Short kind n
short kind k n wide small room = (wide, omega (arith, numeral_length k 10 n false (omega arith) wide small, room))

pub positive_width : (kind : Kind) (n : ℕ) → IsOfKind kind (integer (pos n)) → (n < 2 ^ 128) × (length (numeral 10 false n) + 1 ≤ greatest_digits DecInt kind)
positive_width I8 n h = short I8 2 n (omega (arith, h.sfits)) (omega (arith, h.sfits)) (omega arith)
positive_width I16 n h = short I16 4 n (omega (arith, h.sfits)) (omega (arith, h.sfits)) (omega arith)
positive_width I32 n h = short I32 9 n (omega (arith, h.sfits)) (omega (arith, h.sfits)) (omega arith)
positive_width I64 n h = short I64 18 n (omega (arith, h.sfits)) (omega (arith, h.sfits)) (omega arith)
positive_width Isize n h = short Isize 18 n (omega (arith, h.sfits)) (omega (arith, h.sfits)) (omega arith)
positive_width U8 n h = absurd h
positive_width U16 n h = absurd h
positive_width U32 n h = absurd h
positive_width U64 n h = absurd h
positive_width Usize n h = absurd h
positive_width Word n h = absurd h
positive_width Char n h = absurd h

pub negative_width : (kind : Kind) (n : ℕ) → IsOfKind kind (integer (negsuc n)) → (suc n < 2 ^ 128) × (length (numeral 10 false (suc n)) + 1 ≤ greatest_digits DecInt kind)
negative_width I8 n h = short I8 2 (suc n) (omega (arith, h.sfits)) (omega (arith, h.sfits)) (omega arith)
negative_width I16 n h = short I16 4 (suc n) (omega (arith, h.sfits)) (omega (arith, h.sfits)) (omega arith)
negative_width I32 n h = short I32 9 (suc n) (omega (arith, h.sfits)) (omega (arith, h.sfits)) (omega arith)
negative_width I64 n h = short I64 18 (suc n) (omega (arith, h.sfits)) (omega (arith, h.sfits)) (omega arith)
negative_width Isize n h = short Isize 18 (suc n) (omega (arith, h.sfits)) (omega (arith, h.sfits)) (omega arith)
negative_width U8 n h = absurd h
negative_width U16 n h = absurd h
negative_width U32 n h = absurd h
negative_width U64 n h = absurd h
negative_width Usize n h = absurd h
negative_width Word n h = absurd h
negative_width Char n h = absurd h
