-- A number's field, by its conversion.
use Rattle.std.proofs.Common.{◌≡◌, ◌-◌, ◌+◌, ℕ, suc, pos, negsuc, Bool, true, false, List, [], ◌∷◌, length, Option, refl, arith, w8, w16, w32, w64}
use Rattle.std.specs.Int.{cast_unsigned}
use Rattle.sprintf.specs.declared.parser.ConversionType.{ConversionType}
use Rattle.sprintf.specs.declared.parser.ConversionType.TheVariants.{DecInt, OctInt, HexIntLower, HexIntUpper, Char as CharConversion, String}
use Rattle.sprintf.specs.Field.{prefix_of, digits_of}
use Rattle.values.specs.declared.kind.Kind.{Kind}
use Rattle.values.specs.declared.kind.Kind.TheVariants.{Word, Char}
use Rattle.values.specs.Datum.{natural, integer, IsOfKind}
use Rattle.row_format.specs.Plannable.{Converts, by_bits, greatest_digits}
use Rattle.row_laws.specs.Inner.Directives.{shape_by, front_by}
use Rattle.row_laws.proofs.Fields.Shown.{Standing}
use Rattle.row_laws.proofs.Fields.Layout.{filled, when}
use Rattle.row_laws.proofs.Fields.Decimal.{Exact, plus_sign, natural_decimal, positive_decimal, negative_decimal}
use Rattle.row_laws.proofs.Fields.Octal.{octal}
use Rattle.row_laws.proofs.Fields.Hexadecimal.{lower, upper}
use Rattle.row_laws.proofs.Fields.Widths.{natural_number, natural_fits, by_bits_wide, decimal_width, octal_width, hexadecimal_width, signed, positive_width, negative_width}
use Rattle.row_laws.proofs.Fields.Printed.{no_text, signed_lead, signed_number}

-- what an exact field is, by its conversion and kind
abbrev IsExact : ConversionType → Bool → Kind → Bool → Bool → Bool → ℕ → Type 0
IsExact v alt kind left pads space width = Exact left pads space (length (when alt (prefix_of v)) + greatest_digits v kind) width

pub natural_standing : (v : ConversionType) (alt left pads space : Bool) (width : ℕ) (kind : Kind) (n : ℕ) (exact : Bool) (end : Option ℕ) → Converts v kind → IsOfKind kind (natural n) → (exact ≡ true → IsExact v alt kind left pads space width)
    → Standing v kind (natural n) exact end (front_by v alt) (shape_by v alt exact width end) (filled left pads (width - (length (when alt (prefix_of v)) + length (digits_of v n))) (when alt (prefix_of v)) (digits_of v n))
natural_standing DecInt false left pads space width kind n exact end h is e =
    natural_decimal kind n exact end left pads space width (0 + greatest_digits DecInt kind) (by_bits_wide kind n (natural_fits kind n is)) (natural_fits kind n is) (omega (arith, decimal_width kind n is)) e
natural_standing DecInt true left pads space width kind n exact end h is e =
    natural_decimal kind n exact end left pads space width (0 + greatest_digits DecInt kind) (by_bits_wide kind n (natural_fits kind n is)) (natural_fits kind n is) (omega (arith, decimal_width kind n is)) e
natural_standing OctInt alt left pads space width kind n exact end h is e =
    octal kind (natural n) n exact end alt left pads space width (greatest_digits OctInt kind) (by_bits_wide kind n (natural_fits kind n is)) (λ t stands. stands) (octal_width kind n (natural_fits kind n is)) e
natural_standing HexIntLower alt left pads space width kind n exact end h is e =
    lower kind (natural n) n exact end alt left pads space width (greatest_digits HexIntLower kind) (by_bits_wide kind n (natural_fits kind n is)) (λ t stands. stands) (hexadecimal_width kind n false (natural_fits kind n is)) e
natural_standing HexIntUpper false left pads space width kind n exact end h is e =
    upper kind (natural n) n exact end false left pads space width (greatest_digits HexIntUpper kind) (by_bits_wide kind n (natural_fits kind n is)) (λ t stands. stands) (hexadecimal_width kind n true (natural_fits kind n is)) e
natural_standing HexIntUpper true left pads space width kind n exact end h is e =
    upper kind (natural n) n exact end true left pads space width (greatest_digits HexIntUpper kind) (by_bits_wide kind n (natural_fits kind n is)) (λ t stands. stands) (hexadecimal_width kind n true (natural_fits kind n is)) e
natural_standing String alt left pads space width kind n exact end h is e = absurd (no_text kind Word h refl (natural_number kind n is))
natural_standing CharConversion alt left pads space width kind n exact end h is e = absurd (no_text kind Char h refl (natural_number kind n is))
natural_standing v alt left pads space width kind n exact end h is e = absurd h

pub positive_standing : (v : ConversionType) (alt left pads plus space : Bool) (width : ℕ) (kind : Kind) (n : ℕ) (exact : Bool) (end : Option ℕ) → Converts v kind → IsOfKind kind (integer (pos n)) → (exact ≡ true → IsExact v alt kind left pads space width)
    → let lead : List ℕ = signed_lead v v alt (plus_sign plus space) in
    let digits : List ℕ = digits_of v (signed_number v n (cast_unsigned (by_bits w8 w16 w32 w64 kind) (pos n))) in
    Standing v kind (integer (pos n)) exact end (front_by v alt) (shape_by v alt exact width end) (filled left pads (width - (length lead + length digits)) lead digits)
positive_standing DecInt false left pads plus space width kind n exact end h is e = let p = positive_width kind n is in
    positive_decimal kind n exact end left pads plus space width (0 + greatest_digits DecInt kind) p.0 (signed kind (pos n) is).fits (omega (arith, p.1)) e
positive_standing DecInt true left pads plus space width kind n exact end h is e = let p = positive_width kind n is in
    positive_decimal kind n exact end left pads plus space width (0 + greatest_digits DecInt kind) p.0 (signed kind (pos n) is).fits (omega (arith, p.1)) e
positive_standing OctInt alt left pads plus space width kind n exact end h is e = let fits = (signed kind (pos n) is).complement in
    octal kind (integer (pos n)) _ exact end alt left pads space width (greatest_digits OctInt kind) (by_bits_wide kind _ fits) (λ t stands. stands) (octal_width kind _ fits) e
positive_standing HexIntLower alt left pads plus space width kind n exact end h is e = let fits = (signed kind (pos n) is).complement in
    lower kind (integer (pos n)) _ exact end alt left pads space width (greatest_digits HexIntLower kind) (by_bits_wide kind _ fits) (λ t stands. stands) (hexadecimal_width kind _ false fits) e
positive_standing HexIntUpper false left pads plus space width kind n exact end h is e = let fits = (signed kind (pos n) is).complement in
    upper kind (integer (pos n)) _ exact end false left pads space width (greatest_digits HexIntUpper kind) (by_bits_wide kind _ fits) (λ t stands. stands) (hexadecimal_width kind _ true fits) e
positive_standing HexIntUpper true left pads plus space width kind n exact end h is e = let fits = (signed kind (pos n) is).complement in
    upper kind (integer (pos n)) _ exact end true left pads space width (greatest_digits HexIntUpper kind) (by_bits_wide kind _ fits) (λ t stands. stands) (hexadecimal_width kind _ true fits) e
positive_standing String alt left pads plus space width kind n exact end h is e = absurd (no_text kind Word h refl (signed kind (pos n) is).number)
positive_standing CharConversion alt left pads plus space width kind n exact end h is e = absurd (no_text kind Char h refl (signed kind (pos n) is).number)
positive_standing v alt left pads plus space width kind n exact end h is e = absurd h

pub negative_standing : (v : ConversionType) (alt left pads space : Bool) (width : ℕ) (kind : Kind) (n : ℕ) (exact : Bool) (end : Option ℕ) → Converts v kind → IsOfKind kind (integer (negsuc n)) → (exact ≡ true → IsExact v alt kind left pads space width)
    → let lead : List ℕ = signed_lead v v alt (45 ∷ []) in
    let digits : List ℕ = digits_of v (signed_number v (suc n) (cast_unsigned (by_bits w8 w16 w32 w64 kind) (negsuc n))) in
    Standing v kind (integer (negsuc n)) exact end (front_by v alt) (shape_by v alt exact width end) (filled left pads (width - (length lead + length digits)) lead digits)
negative_standing DecInt false left pads space width kind n exact end h is e = let p = negative_width kind n is in
    negative_decimal kind n exact end left pads space width (0 + greatest_digits DecInt kind) p.0 (signed kind (negsuc n) is).fits (omega (arith, p.1)) e
negative_standing DecInt true left pads space width kind n exact end h is e = let p = negative_width kind n is in
    negative_decimal kind n exact end left pads space width (0 + greatest_digits DecInt kind) p.0 (signed kind (negsuc n) is).fits (omega (arith, p.1)) e
negative_standing OctInt alt left pads space width kind n exact end h is e = let fits = (signed kind (negsuc n) is).complement in
    octal kind (integer (negsuc n)) _ exact end alt left pads space width (greatest_digits OctInt kind) (by_bits_wide kind _ fits) (λ t stands. stands) (octal_width kind _ fits) e
negative_standing HexIntLower alt left pads space width kind n exact end h is e = let fits = (signed kind (negsuc n) is).complement in
    lower kind (integer (negsuc n)) _ exact end alt left pads space width (greatest_digits HexIntLower kind) (by_bits_wide kind _ fits) (λ t stands. stands) (hexadecimal_width kind _ false fits) e
negative_standing HexIntUpper false left pads space width kind n exact end h is e = let fits = (signed kind (negsuc n) is).complement in
    upper kind (integer (negsuc n)) _ exact end false left pads space width (greatest_digits HexIntUpper kind) (by_bits_wide kind _ fits) (λ t stands. stands) (hexadecimal_width kind _ true fits) e
negative_standing HexIntUpper true left pads space width kind n exact end h is e = let fits = (signed kind (negsuc n) is).complement in
    upper kind (integer (negsuc n)) _ exact end true left pads space width (greatest_digits HexIntUpper kind) (by_bits_wide kind _ fits) (λ t stands. stands) (hexadecimal_width kind _ true fits) e
negative_standing String alt left pads space width kind n exact end h is e = absurd (no_text kind Word h refl (signed kind (negsuc n) is).number)
negative_standing CharConversion alt left pads space width kind n exact end h is e = absurd (no_text kind Char h refl (signed kind (negsuc n) is).number)
negative_standing v alt left pads space width kind n exact end h is e = absurd h
