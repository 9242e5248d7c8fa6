-- Number kinds by their width and sign, and the text of their fields.
use Rattle.std.proofs.Common.{◌≡◌, ◌≢◌, ◌<◌, ◌+◌, ◌-◌, ◌^◌, ℕ, zero, suc, ℤ, pos, negsuc, Bool, true, false, cond, List, [], ◌∷◌, ◌++◌, length, replicate, Option, Some, Result, Ok, FitsSigned, unwrap_or, sym, ap, refl, ◌∙◌, arith, append_assoc, unsigned_abs}
use Rattle.std.specs.Int.{Width, w8, w16, w32, w64, cast_unsigned, cast_signed}
use Rattle.std.proofs.lemmas.Int.{of_z-to_z}
use Rattle.std.proofs.lemmas.Str.{encode_ascii}
use Rattle.std.proofs.Math.Facts.{Fits-of_z, sfits_to_z}
use mir.Val.{bits}
use Rattle.padding.specs.Field.{fills}
use Rattle.sprintf.specs.declared.PrintfError.{PrintfError}
use Rattle.sprintf.specs.declared.parser.ConversionSpecifier.{ConversionSpecifier}
use Rattle.sprintf.specs.declared.parser.ConversionType.{ConversionType}
use Rattle.sprintf.specs.declared.parser.ConversionType.TheVariants.{DecInt, OctInt, HexIntLower, HexIntUpper, Char as CharConversion, String}
use Rattle.sprintf.specs.declared.parser.NumericParam.{NumericParam}
use Rattle.sprintf.specs.declared.parser.NumericParam.TheVariants.{Literal, FromArgument}
use Rattle.sprintf.specs.Field.{number_of, with_number, number_text, unsigned_text, signed_text, filled_number, prefix_of, digits_of, sign_of}
use Rattle.sprintf.specs.Meaning.{by_conversion}
use Rattle.values.specs.declared.kind.Kind.{Kind}
use Rattle.values.specs.declared.kind.Kind.TheVariants.{U8, U16, U32, U64, Usize, I8, I16, I32, I64, Isize, Word, Char}
use Rattle.values.specs.Datum.{Datum, natural, integer, word, character, IsOfKind, printf_meaning}
use Rattle.row_format.specs.Columns.{field_text, width_of}
use Rattle.row_format.specs.Inner.Elements.{text_or_none}
use Rattle.row_format.specs.Plannable.{is_number, is_signed, by_bits, Converts}
use Rattle.separation.specs.Inner.Table.{is_signed_decimal}

-- the conversions to digits
abbrev pub IsDigits : ConversionType → Type 0
IsDigits DecInt = Unit {0}
IsDigits OctInt = Unit {0}
IsDigits HexIntLower = Unit {0}
IsDigits HexIntUpper = Unit {0}
IsDigits _ = ⊥

pub converts_digits : (v : ConversionType) (kind : Kind) → is_number kind ≡ true → Converts v kind → IsDigits v
converts_digits DecInt kind number h = tt
converts_digits OctInt kind number h = tt
converts_digits HexIntLower kind number h = tt
converts_digits HexIntUpper kind number h = tt
converts_digits String kind number h = let bad : false ≡ true = sym (ap is_number h) ∙ number in absurd (cc)
converts_digits CharConversion kind number h = let bad : false ≡ true = sym (ap is_number h) ∙ number in absurd (cc)
converts_digits _ kind number h = absurd h

-- the bits of a kind
abbrev pub width_of_kind : Kind → Width
width_of_kind kind = by_bits w8 w16 w32 w64 kind

-- what holds of four widths holds of each kind
pub four : (P : Width → ℕ → Type 0) (a b c d : ℕ) → P w8 a → P w16 b → P w32 c → P w64 d → (kind : Kind) → P (width_of_kind kind) (by_bits a b c d kind)
four P a b c d p q r s U8 = p
four P a b c d p q r s U16 = q
four P a b c d p q r s U32 = r
four P a b c d p q r s U64 = s
four P a b c d p q r s Usize = s
four P a b c d p q r s I8 = p
four P a b c d p q r s I16 = q
four P a b c d p q r s I32 = r
four P a b c d p q r s I64 = s
four P a b c d p q r s Isize = s
four P a b c d p q r s Word = p
four P a b c d p q r s Char = p

by_digits : (v : ConversionType) (a b c : Result (List ℕ) PrintfError) → IsDigits v → by_conversion v a b c ≡ a
by_digits DecInt a b c h = refl
by_digits OctInt a b c h = refl
by_digits HexIntLower a b c h = refl
by_digits HexIntUpper a b c h = refl
by_digits _ a b c h = absurd h

-- a number of a kind without signs
pub record IsNatural (kind : Kind) (n : ℕ) : Type 0 where
  pub unsigned : is_signed kind ≡ false
  pub small : n < 2 ^ bits (width_of_kind kind)
  pub text : (f : ConversionSpecifier) → IsDigits f.conversion_type → (printf_meaning kind (natural n)).text f ≡ unsigned_text f n

pub natural_is : (kind : Kind) (n : ℕ) → IsOfKind kind (natural n) → IsNatural kind n
natural_is U8 n h = record { unsigned = refl; small = h; text = λ f d. by_digits f.conversion_type _ _ _ d }
natural_is U16 n h = record { unsigned = refl; small = h; text = λ f d. by_digits f.conversion_type _ _ _ d }
natural_is U32 n h = record { unsigned = refl; small = h; text = λ f d. by_digits f.conversion_type _ _ _ d }
natural_is U64 n h = record { unsigned = refl; small = h; text = λ f d. by_digits f.conversion_type _ _ _ d }
natural_is Usize n h = record { unsigned = refl; small = h; text = λ f d. by_digits f.conversion_type _ _ _ d }
natural_is _ n h = absurd h

pub natural_of : (kind : Kind) (n : ℕ) → is_number kind ≡ true → is_signed kind ≡ false → n < 2 ^ bits (width_of_kind kind) → IsOfKind kind (natural n)
natural_of U8 n number unsigned h = h
natural_of U16 n number unsigned h = h
natural_of U32 n number unsigned h = h
natural_of U64 n number unsigned h = h
natural_of Usize n number unsigned h = h
natural_of Word n number unsigned h = absurd (let bad : false ≡ true = number in cc)
natural_of Char n number unsigned h = absurd (let bad : false ≡ true = number in cc)
natural_of _ n number unsigned h = absurd (let bad : true ≡ false = unsigned in cc)

-- a number of a kind with signs
pub record IsInteger (kind : Kind) (z : ℤ) : Type 0 where
  pub signed : is_signed kind ≡ true
  pub small : FitsSigned (width_of_kind kind) z
  pub text : (f : ConversionSpecifier) → IsDigits f.conversion_type → (printf_meaning kind (integer z)).text f ≡ signed_text f.conversion_type f z (cast_unsigned (width_of_kind kind) z)

pub integer_is : (kind : Kind) (z : ℤ) → IsOfKind kind (integer z) → IsInteger kind z
integer_is I8 z h = record { signed = refl; small = h; text = λ f d. by_digits f.conversion_type _ _ _ d }
integer_is I16 z h = record { signed = refl; small = h; text = λ f d. by_digits f.conversion_type _ _ _ d }
integer_is I32 z h = record { signed = refl; small = h; text = λ f d. by_digits f.conversion_type _ _ _ d }
integer_is I64 z h = record { signed = refl; small = h; text = λ f d. by_digits f.conversion_type _ _ _ d }
integer_is Isize z h = record { signed = refl; small = h; text = λ f d. by_digits f.conversion_type _ _ _ d }
integer_is _ z h = absurd h

pub integer_of : (kind : Kind) (z : ℤ) → is_signed kind ≡ true → FitsSigned (width_of_kind kind) z → IsOfKind kind (integer z)
integer_of I8 z signed h = h
integer_of I16 z signed h = h
integer_of I32 z signed h = h
integer_of I64 z signed h = h
integer_of Isize z signed h = h
integer_of _ z signed h = absurd (let bad : false ≡ true = signed in cc)

-- a value of a number's kind is a number
pub not_a_word : (kind : Kind) (text : List ℕ) → is_number kind ≡ true → IsOfKind kind (word text) → ⊥
not_a_word Word text number h = let bad : false ≡ true = number in cc
not_a_word _ text number h = h

pub not_a_character : (kind : Kind) (c : ℕ) → is_number kind ≡ true → IsOfKind kind (character c) → ⊥
not_a_character Char c number h = let bad : false ≡ true = number in cc
not_a_character _ c number h = h

-- a width or precision that is no argument is a number
pub param_is : (p : NumericParam) → p ≢ FromArgument → number_of p ≡ Some (unwrap_or (number_of p) 0)
param_is (Literal (pos n)) given = refl
param_is (Literal (negsuc n)) given = refl
param_is FromArgument given = absurd (given refl)

-- fills of one byte
pub fills_is : (n c : ℕ) → c < 128 → fills n c ≡ replicate n c
fills_is zero c low = refl
fills_is (suc n) c low = ap (λ (t : List ℕ). t ++ fills n c) (encode_ascii c low) ∙ ap (λ (t : List ℕ). c ∷ t) (fills_is n c low)

-- lead and digits in their room
abbrev pub number_form : Bool → Bool → ℕ → List ℕ → List ℕ → List ℕ
number_form left zero_pad room lead digits = cond left (lead ++ (digits ++ replicate room 32)) (cond zero_pad (lead ++ (replicate room 48 ++ digits)) (replicate room 32 ++ (lead ++ digits)))

filled_by : (left zero_pad : Bool) (room : ℕ) (lead digits : List ℕ) → cond left (lead ++ digits ++ fills room 32) (cond zero_pad (lead ++ fills room 48 ++ digits) (fills room 32 ++ lead ++ digits)) ≡ number_form left zero_pad room lead digits
filled_by true zero_pad room lead digits = append_assoc lead digits (fills room 32) ∙ ap (λ (t : List ℕ). lead ++ (digits ++ t)) (fills_is room 32 (omega arith))
filled_by false true room lead digits = append_assoc lead (fills room 48) digits ∙ ap (λ (t : List ℕ). lead ++ (t ++ digits)) (fills_is room 48 (omega arith))
filled_by false false room lead digits = append_assoc (fills room 32) lead digits ∙ ap (λ (t : List ℕ). t ++ (lead ++ digits)) (fills_is room 32 (omega arith))

-- the room that the width leaves beside lead and digits
abbrev pub room_of : ConversionSpecifier → List ℕ → ℕ → ℕ
room_of f lead n = width_of f - (length lead + length (digits_of f.conversion_type n))

-- the text of a number's field with this lead
abbrev pub number_field : ConversionSpecifier → List ℕ → ℕ → List ℕ
number_field f lead n = number_form f.left_adj f.zero_pad (room_of f lead n) lead (digits_of f.conversion_type n)

-- the prefix of a field
abbrev pub prefix : ConversionSpecifier → List ℕ
prefix f = cond f.alt_form (prefix_of f.conversion_type) []

number_is : (f : ConversionSpecifier) (lead : List ℕ) (n : ℕ) → f.width ≢ FromArgument → text_or_none (number_text f lead n) ≡ number_field f lead n
number_is f lead n given =
    let digits = digits_of f.conversion_type n in
    ap (λ (o : Option ℕ). text_or_none (with_number o (λ width. Ok (filled_number f (width - (length lead + length digits)) lead digits)))) (param_is f.width given)
    ∙ filled_by f.left_adj f.zero_pad (room_of f lead n) lead digits

-- a number in decimal has its absolute value behind its sign, the others behind the prefix
signed_by : (v : ConversionType) (f : ConversionSpecifier) (z : ℤ) (complement : ℕ) → (v ≡ DecInt → ⊥) → signed_text v f z complement ≡ unsigned_text f complement
signed_by DecInt f z complement other = absurd (other refl)
signed_by _ f z complement other = refl

pub not_decimal : (v : ConversionType) (kind : Kind) → is_signed kind ≡ true → is_signed_decimal v kind ≡ false → v ≡ DecInt → ⊥
not_decimal v kind signed other e = let bad : true ≡ false = sym signed ∙ sym (ap (λ t. is_signed_decimal t kind) e) ∙ other in cc

pub decimal_is : (v : ConversionType) (kind : Kind) → is_signed_decimal v kind ≡ true → (v ≡ DecInt) × (is_signed kind ≡ true)
decimal_is DecInt kind h = (refl, h)
decimal_is _ kind h = absurd (let bad : false ≡ true = h in cc)

-- the texts of a number's field in any other than a signed decimal: the prefix and the digits of each number of so many bits
pub record BitTexts (f : ConversionSpecifier) (kind : Kind) : Type 0 where
  pub each : (x : Datum) → IsOfKind kind x → (n : ℕ) × (n < 2 ^ bits (width_of_kind kind)) × (field_text f kind x ≡ number_field f (prefix f) n)
  pub some : (n : ℕ) → n < 2 ^ bits (width_of_kind kind) → (x : Datum) × IsOfKind kind x × (field_text f kind x ≡ number_field f (prefix f) n)

-- the texts of a signed decimal: its sign and the digits of its absolute value
pub record DecimalTexts (f : ConversionSpecifier) (kind : Kind) : Type 0 where
  pub each : (x : Datum) → IsOfKind kind x → (z : ℤ) × FitsSigned (width_of_kind kind) z × (field_text f kind x ≡ number_field f (sign_of f z) (unsigned_abs z))
  pub some : (z : ℤ) → FitsSigned (width_of_kind kind) z → (x : Datum) × IsOfKind kind x × (field_text f kind x ≡ number_field f (sign_of f z) (unsigned_abs z))

module _ (f : ConversionSpecifier) (kind : Kind) (number : is_number kind ≡ true) (digits : IsDigits f.conversion_type) (given : f.width ≢ FromArgument) where
  natural_text : (n : ℕ) → IsOfKind kind (natural n) → field_text f kind (natural n) ≡ number_field f (prefix f) n
  natural_text n is = ap text_or_none ((natural_is kind n is).text f digits) ∙ number_is f (prefix f) n given

  bits_text : (z : ℤ) → (f.conversion_type ≡ DecInt → ⊥) → IsOfKind kind (integer z) → field_text f kind (integer z) ≡ number_field f (prefix f) (cast_unsigned (width_of_kind kind) z)
  bits_text z other is =
      let complement = cast_unsigned (width_of_kind kind) z in
      ap text_or_none ((integer_is kind z is).text f digits ∙ signed_by f.conversion_type f z complement other) ∙ number_is f (prefix f) complement given

  decimal_text : (z : ℤ) → f.conversion_type ≡ DecInt → IsOfKind kind (integer z) → field_text f kind (integer z) ≡ number_field f (sign_of f z) (unsigned_abs z)
  decimal_text z decimal is =
      let complement = cast_unsigned (width_of_kind kind) z in
      ap text_or_none ((integer_is kind z is).text f digits ∙ ap (λ v. signed_text v f z complement) decimal) ∙ number_is f (sign_of f z) (unsigned_abs z) given

  bits_each : is_signed_decimal f.conversion_type kind ≡ false → (x : Datum) → IsOfKind kind x → (n : ℕ) × (n < 2 ^ bits (width_of_kind kind)) × (field_text f kind x ≡ number_field f (prefix f) n)
  bits_each other (natural n) is = (n, (natural_is kind n is).small, natural_text n is)
  bits_each other (integer z) is =
      let it = integer_is kind z is in
      (cast_unsigned (width_of_kind kind) z, (Fits-of_z {w = width_of_kind kind} {z = z} it.small).fits, bits_text z (not_decimal f.conversion_type kind it.signed other) is)
  bits_each other (word text) is = absurd (not_a_word kind text number is)
  bits_each other (character c) is = absurd (not_a_character kind c number is)

  bits_some : is_signed_decimal f.conversion_type kind ≡ false → (b : Bool) → is_signed kind ≡ b → (n : ℕ) → n < 2 ^ bits (width_of_kind kind) → (x : Datum) × IsOfKind kind x × (field_text f kind x ≡ number_field f (prefix f) n)
  bits_some other false unsigned n small = let is = natural_of kind n number unsigned small in (natural n, is, natural_text n is)
  bits_some other true signed n small =
      let z = cast_signed (width_of_kind kind) n in
      let is = integer_of kind z signed (sfits_to_z {w = width_of_kind kind} {n = n} (record { fits = small })) in
      (integer z, is, bits_text z (not_decimal f.conversion_type kind signed other) is ∙ ap (number_field f (prefix f)) (of_z-to_z (width_of_kind kind) n small))

  pub bit_texts : is_signed_decimal f.conversion_type kind ≡ false → BitTexts f kind
  bit_texts other = record { each = bits_each other; some = bits_some other (is_signed kind) refl }

  decimal_each : f.conversion_type ≡ DecInt → is_signed kind ≡ true → (x : Datum) → IsOfKind kind x → (z : ℤ) × FitsSigned (width_of_kind kind) z × (field_text f kind x ≡ number_field f (sign_of f z) (unsigned_abs z))
  decimal_each decimal signed (natural n) is = absurd (let bad : true ≡ false = sym signed ∙ (natural_is kind n is).unsigned in cc)
  decimal_each decimal signed (integer z) is = (z, (integer_is kind z is).small, decimal_text z decimal is)
  decimal_each decimal signed (word text) is = absurd (not_a_word kind text number is)
  decimal_each decimal signed (character c) is = absurd (not_a_character kind c number is)

  pub decimal_texts : is_signed_decimal f.conversion_type kind ≡ true → DecimalTexts f kind
  decimal_texts h =
      let it = decimal_is f.conversion_type kind h in
      record { each = decimal_each it.0 it.1; some = λ z small. let is = integer_of kind z it.1 small in (integer z, is, decimal_text z it.0 is) }
