-- The table of greatest lengths is right.
use Rattle.std.proofs.Common.{◌≡◌, ◌≤◌, ◌+◌, ℕ, pos, Bool, true, false, List, ◌++◌, length, replicate, ap, inl, inr, ◌∙◌, arith, length-append, unsigned_abs}
use Rattle.std.proofs.lemmas.Bool.{cases_Bool}
use Rattle.std.proofs.lemmas.List.{length-replicate}
use Rattle.sprintf.specs.declared.parser.ConversionSpecifier.{ConversionSpecifier}
use Rattle.sprintf.specs.declared.parser.NumericParam.TheVariants.{Literal}
use Rattle.sprintf.specs.Field.{digits_of, sign_of}
use Rattle.values.specs.declared.kind.Kind.{Kind}
use Rattle.values.specs.Datum.{Datum, IsOfKind}
use Rattle.row_format.specs.Columns.{field_text}
use Rattle.row_format.specs.Plannable.{is_number, greatest_length}
use Rattle.row_format.specs.Laws.{TableIsRight}
use Rattle.separation.specs.Inner.Table.{is_signed_decimal}
use Rattle.separation.proofs.Sorts.{IsDigits, converts_digits, number_form, number_field, room_of, prefix, bit_texts, decimal_texts}
use Rattle.separation.proofs.Lengths.{bits_most, bits_long, decimal_most, decimal_least}

-- the length of a number's text
form_length : (left zero_pad : Bool) (room : ℕ) (lead digits : List ℕ) → length (number_form left zero_pad room lead digits) ≡ length lead + length digits + room
form_length true zero_pad room lead digits = omega (arith, length-append lead (digits ++ replicate room 32), length-append digits (replicate room 32), length-replicate {A = ℕ} room 32)
form_length false true room lead digits = omega (arith, length-append lead (replicate room 48 ++ digits), length-append (replicate room 48) digits, length-replicate {A = ℕ} room 48)
form_length false false room lead digits = omega (arith, length-append (replicate room 32) (lead ++ digits), length-append lead digits, length-replicate {A = ℕ} room 32)

pub field_length : (f : ConversionSpecifier) (lead : List ℕ) (n : ℕ) → length (number_field f lead n) ≡ length lead + length (digits_of f.conversion_type n) + room_of f lead n
field_length f lead n = form_length f.left_adj f.zero_pad (room_of f lead n) lead (digits_of f.conversion_type n)

abbrev bare : ConversionSpecifier → ConversionSpecifier
bare f = record f { width = Literal (pos 0) }

bare_length : (f : ConversionSpecifier) (lead : List ℕ) (n : ℕ) → length (number_field (bare f) lead n) ≡ length lead + length (digits_of f.conversion_type n)
bare_length f lead n = omega (arith, field_length (bare f) lead n)

abbrev Right : ConversionSpecifier → Kind → Type 0
Right f kind = ((value : Datum) → IsOfKind kind value → length (field_text (bare f) kind value) ≤ greatest_length f kind)
    × ((value : Datum) × IsOfKind kind value × (length (field_text (bare f) kind value) ≡ greatest_length f kind))

bits_right : (f : ConversionSpecifier) (kind : Kind) → is_number kind ≡ true → IsDigits f.conversion_type → is_signed_decimal f.conversion_type kind ≡ false → Right f kind
bits_right f kind number digits other =
    let texts = bit_texts (bare f) kind number digits (λ e. cc) other in
    let long = bits_long f.conversion_type kind digits other in
    let one = texts.some long.n long.small in (
      (λ x is. let it = texts.each x is in
          let same = ap length it.2 in
          omega (arith, same, bare_length f (prefix f) it.0, bits_most f.conversion_type kind it.0 digits other it.1)),
      (one.0, one.1, ap length one.2 ∙ bare_length f (prefix f) long.n ∙ ap (λ n. length (prefix f) + n) long.full),
    )

decimal_right : (f : ConversionSpecifier) (kind : Kind) → is_number kind ≡ true → IsDigits f.conversion_type → is_signed_decimal f.conversion_type kind ≡ true → Right f kind
decimal_right f kind number digits decimal =
    let texts = decimal_texts (bare f) kind number digits (λ e. cc) decimal in
    let least = decimal_least f kind decimal in
    let one = texts.some least.z least.fits in (
      (λ x is. let it = texts.each x is in
          let same = ap length it.2 in
          omega (arith, same, bare_length f (sign_of f it.0) (unsigned_abs it.0), decimal_most f kind it.0 decimal it.1)),
      (one.0, one.1, ap length one.2 ∙ bare_length f (sign_of f least.z) (unsigned_abs least.z) ∙ least.full),
    )

pub table_is_right : TableIsRight
table_is_right c kind paired number =
    let digits = converts_digits c.field.conversion_type kind number paired.0 in
    elim (cases_Bool (is_signed_decimal c.field.conversion_type kind)) [
      | inl decimal ↦ decimal_right c.field kind number digits decimal
      | inr other ↦ bits_right c.field kind number digits other
    ]
