-- What fields print of the numbers that are taken by their bits.
use Rattle.std.proofs.Common.{◌≡◌, ◌⊎◌, ◌<◌, ◌≤◌, ◌^◌, ◌+◌, ◌-◌, zero, suc, ℕ, ℤ, Bool, true, false, if◌then◌else◌, List, [], ◌∷◌, ◌++◌, length, Some, Result, Ok, IsUtf8, inl, inr, sym, ap, subst, refl, ◌∙◌, ⊎_elim, arith, append_assoc}
use Rattle.std.specs.Int.{Width, w8, w16, w32, w64, cast_signed, cast_unsigned}
use Rattle.std.specs.Char.{digit_value}
use Rattle.std.specs.Str.{byte, IsAscii}
use Rattle.std.specs.Str.Parse.{AllDigits}
use Rattle.std.proofs.lemmas.Bool.{cases_lt}
use Rattle.std.proofs.lemmas.Bool.Decides.{nat_tests}
use Rattle.std.proofs.lemmas.Int.{of_z-to_z, to_z_pos}
use Rattle.std.proofs.Math.Facts.{to_z-neg, sfits_to_z}
use Rattle.std.proofs.lemmas.Str.{IsUtf8-from_ascii, IsAscii-append}
use Rattle.std.proofs.lemmas.List.{append-nil}
use mir.Val.{bits, hbits}
use Rattle.numerals.specs.Laws.{NumeralOfValue}
use Rattle.numerals.specs.Numeral.{numeral}
use Rattle.padding.specs.Field.{fills}
use Rattle.sprintf.specs.declared.PrintfError.{PrintfError}
use Rattle.sprintf.specs.declared.parser.ConversionSpecifier.{ConversionSpecifier}
use Rattle.sprintf.specs.declared.parser.ConversionType.{ConversionType}
use Rattle.sprintf.specs.Field.{number_of, number_text, unsigned_text, signed_text, prefix_of}
use Rattle.sprintf.specs.Meaning.{by_conversion}
use Rattle.values.specs.declared.kind.Kind.{Kind}
use Rattle.values.specs.declared.kind.Kind.TheVariants.{U8, U16, U32, U64, Usize, I8, I16, I32, I64, Isize}
use Rattle.values.specs.Datum.{Datum, natural, integer}
use Rattle.row_format.specs.Columns.{field_text}
use Rattle.row_format.specs.Inner.Elements.{text_or_none}
use Rattle.row_format.specs.Fit.{IsFit}
use Rattle.columns.specs.Fields.{token_text}
use Rattle.columns.specs.Inner.Serves.{conversion_of, AreBounds, IsFilledByZeros, IsServed, Serves}
use Rattle.columns.specs.Inner.Shapes.{base_of, is_upper, prefix_in, IsFilled, IsFilledInFront, IsOfForm, IsTaken, IsWidened}
use Rattle.columns.specs.declared.hexadecimal.Form.{Form}
use Rattle.columns.specs.declared.hexadecimal.Notation.{Notation}
use Rattle.columns.specs.declared.hexadecimal.Notation.TheVariants.{Octal, Lower, Upper}
use Rattle.columns.specs.declared.take.Take.TheVariants.{Bits}
use Rattle.columns.proofs.Fields.{filled_by}
use Rattle.columns.proofs.Filled.{filled_is}
use Rattle.tokens.specs.Tokens.{datum_at}
use Rattle.tokens.specs.declared.Token.{Token}

-- what is taken is a text

digit_ascii : (c : ℕ) → digit_value c < 16 → c < 128
digit_ascii c h = grind (arith, nat_tests)

digits_ascii : (base : ℕ) (text : List ℕ) → base ≤ 16 → AllDigits base text → IsAscii text
digits_ascii base [] high h i = omega arith
digits_ascii base (c ∷ cs) high h zero = digit_ascii c (omega (arith, h.0, high))
digits_ascii base (c ∷ cs) high h (suc i) = digits_ascii base cs high h.1 i

prefix_ascii : (notation : Notation) (prefix : Bool) → IsAscii (prefix_in notation prefix)
prefix_ascii notation false i = omega arith
prefix_ascii Octal true zero = omega arith
prefix_ascii Octal true (suc i) = omega arith
prefix_ascii Lower true zero = omega arith
prefix_ascii Lower true (suc zero) = omega arith
prefix_ascii Lower true (suc (suc i)) = omega arith
prefix_ascii Upper true zero = omega arith
prefix_ascii Upper true (suc zero) = omega arith
prefix_ascii Upper true (suc (suc i)) = omega arith

base_low : (notation : Notation) → 2 ≤ base_of notation
base_low Octal = omega arith
base_low Lower = omega arith
base_low Upper = omega arith

base_high : (notation : Notation) → base_of notation ≤ 16
base_high Octal = omega arith
base_high Lower = omega arith
base_high Upper = omega arith

pub form_utf8 : (form : Form) (text : List ℕ) (number : ℕ) → IsOfForm form text number → IsUtf8 text
form_utf8 form text number is = subst IsUtf8 (sym is.whole)
    (IsUtf8-from_ascii (prefix_in form.notation form.prefix ++ is.digits) (IsAscii-append (prefix_in form.notation form.prefix) is.digits (prefix_ascii form.notation form.prefix)
    (digits_ascii (base_of form.notation) is.digits (base_high form.notation) is.filled.digits.digits)))

pub bits_taken : (text behind rest : List ℕ) (n number : ℕ) (form : Form) → text ≡ prefix_in form.notation form.prefix ++ behind → IsFilledInFront form.notation form.width behind n rest → IsWidened form.greatest form.middle n number → IsTaken (Bits form) text number rest
bits_taken text behind rest n number form front filled wide = record {
  token = prefix_in form.notation form.prefix ++ filled.token;
  whole = front ∙ ap (λ (t : List ℕ). prefix_in form.notation form.prefix ++ t) filled.whole ∙ sym (append_assoc (prefix_in form.notation form.prefix) filled.token rest);
  shape = record { digits = filled.token; bits = n; whole = refl; filled = filled.shape; wide = wide };
}

-- what a field prints of bits

filled_with : (left zeros : Bool) (lead digits : List ℕ) (room : ℕ) → ((room ≡ 0) ⊎ ((zeros ≡ true) × (left ≡ false)))
    → (if left then lead ++ digits ++ fills room (byte " ") else (if zeros then lead ++ fills room (byte "0") ++ digits else fills room (byte " ") ++ lead ++ digits)) ≡ lead ++ fills room (byte "0") ++ digits
filled_with left zeros lead digits room (inl e) = filled_by left zeros lead digits room e ∙ sym (ap (λ (t : List ℕ). t ++ digits) (append-nil lead)) ∙ sym (ap (λ k. lead ++ fills k (byte "0") ++ digits) e)
filled_with true zeros lead digits room (inr h) = absurd cc
filled_with false true lead digits room (inr h) = refl
filled_with false false lead digits room (inr h) = absurd cc

room_by : (f : ConversionSpecifier) (width used : ℕ) → IsFilledByZeros f width → ((width - used ≡ 0) ⊎ ((f.zero_pad ≡ true) × (f.left_adj ≡ false)))
room_by f width used (inl e) = inl (omega (arith, e))
room_by f width used (inr h) = inr h

bits_number : (f : ConversionSpecifier) (notation : Notation) (lead : List ℕ) (n width : ℕ) → f.conversion_type ≡ conversion_of notation → number_of f.width ≡ Some width → IsFilledByZeros f width
    → number_text f lead n ≡ Ok (lead ++ fills (width - (length lead + length (numeral (base_of notation) (is_upper notation) n))) (byte "0") ++ numeral (base_of notation) (is_upper notation) n)
bits_number f Octal lead n width conversion wide filled = rw (wide, conversion) (ap Ok (filled_with f.left_adj f.zero_pad lead (numeral 8 false n) _ (room_by f width (length lead + length (numeral 8 false n)) filled)))
bits_number f Lower lead n width conversion wide filled = rw (wide, conversion) (ap Ok (filled_with f.left_adj f.zero_pad lead (numeral 16 false n) _ (room_by f width (length lead + length (numeral 16 false n)) filled)))
bits_number f Upper lead n width conversion wide filled = rw (wide, conversion) (ap Ok (filled_with f.left_adj f.zero_pad lead (numeral 16 true n) _ (room_by f width (length lead + length (numeral 16 true n)) filled)))

lead_by : (notation : Notation) (alternate : Bool) → (if alternate then prefix_of (conversion_of notation) else []) ≡ prefix_in notation alternate
lead_by notation false = refl
lead_by Octal true = refl
lead_by Lower true = refl
lead_by Upper true = refl

-- a text of the form is what the field prints of its bits
form_text : NumeralOfValue → (f : ConversionSpecifier) (notation : Notation) (width inner n : ℕ) (text digits : List ℕ) → f.conversion_type ≡ conversion_of notation → number_of f.width ≡ Some width → IsFilledByZeros f width
    → inner ≡ width - length (prefix_in notation f.alt_form) → text ≡ prefix_in notation f.alt_form ++ digits → IsFilled (base_of notation) (is_upper notation) inner digits n → n < 2 ^ 64 → unsigned_text f n ≡ Ok text
form_text law f notation width inner n text digits conversion wide zeros room whole filled small =
    let lead : List ℕ = prefix_in notation f.alt_form in
    let printed : List ℕ = numeral (base_of notation) (is_upper notation) n in
    let is_lead : (if f.alt_form then prefix_of f.conversion_type else []) ≡ prefix_in notation f.alt_form = rw conversion (lead_by notation f.alt_form) in
    let is_digits = filled_is law (base_of notation) (is_upper notation) digits inner n (base_low notation) (base_high notation) filled small in
    let same : width - (length lead + length printed) ≡ inner - length printed = omega (arith, room) in
    ap (λ (l : List ℕ). number_text f l n) is_lead ∙ bits_number f notation lead n width conversion wide zeros
    ∙ ap (λ k. Ok (lead ++ fills k (byte "0") ++ printed)) same ∙ ap Ok (append_assoc lead (fills (inner - length printed) (byte "0")) printed) ∙ ap (λ (t : List ℕ). Ok (lead ++ t)) (sym is_digits) ∙ ap Ok (sym whole)

-- each kind prints its bits

by_bits : (notation : Notation) (digits character word : Result (List ℕ) PrintfError) → by_conversion (conversion_of notation) digits character word ≡ digits
by_bits Octal digits character word = refl
by_bits Lower digits character word = refl
by_bits Upper digits character word = refl

signed_by_bits : (f : ConversionSpecifier) (notation : Notation) (z : ℤ) (complement : ℕ) → signed_text (conversion_of notation) f z complement ≡ unsigned_text f complement
signed_by_bits f Octal z complement = refl
signed_by_bits f Lower z complement = refl
signed_by_bits f Upper z complement = refl

told : (f : ConversionSpecifier) (notation : Notation) (digits character word : Result (List ℕ) PrintfError) (text : List ℕ) → f.conversion_type ≡ conversion_of notation → digits ≡ Ok text → text_or_none (by_conversion f.conversion_type digits character word) ≡ text
told f notation digits character word text conversion is = ap text_or_none (ap (λ (k : ConversionType). by_conversion k digits character word) conversion ∙ by_bits notation digits character word ∙ is)

told_signed : (f : ConversionSpecifier) (notation : Notation) (z : ℤ) (complement n : ℕ) (text : List ℕ) → f.conversion_type ≡ conversion_of notation → complement ≡ n → unsigned_text f n ≡ Ok text → signed_text f.conversion_type f z complement ≡ Ok text
told_signed f notation z complement n text conversion same is = ap (λ (k : ConversionType). signed_text k f z complement) conversion ∙ signed_by_bits f notation z complement ∙ ap (unsigned_text f) same ∙ is

-- bits of fewer than 64 and their number in 64 stand for the same
same_number : (w : Width) (n number greatest middle : ℕ) → greatest + 1 ≡ 2 ^ bits w → middle + 1 ≡ 2 ^ hbits w → greatest ≡ middle + middle + 1 → middle < 9223372036854775808 → IsWidened greatest middle n number → cast_signed w64 number ≡ cast_signed w n
same_number w n number greatest middle all half double small wide = ⊎_elim
    (λ (above : middle < n).
    let k = greatest - n in
    let few : k < 9223372036854775808 = omega (arith, above, double, small) in
    let of_number : number ≡ 18446744073709551616 - suc k = omega (arith, wide.ones above, wide.small) in
    let of_bits : n ≡ 2 ^ bits w - suc k = omega (arith, wide.small, all) in
    ap (cast_signed w64) of_number ∙ to_z-neg w64 k few ∙ sym (ap (cast_signed w) of_bits ∙ to_z-neg w k (omega (arith, half, above, double))))
    (λ (below : n ≤ middle).
    ap (cast_signed w64) (wide.same below) ∙ to_z_pos w64 n (omega (arith, below, small)) ∙ sym (to_z_pos w n (omega (arith, below, half))))
    (cases_lt middle n)

served : (f : ConversionSpecifier) (kind : Kind) (after row : List ℕ) (token : Token) (d : Datum) (text : List ℕ) → datum_at kind row token ≡ d → IsFit (record { field = f; after = after }) kind d → token_text row token ≡ text → field_text f kind d ≡ text → IsServed f kind after row token
served f kind after row token d text datum fit there printed = record {
  fit = subst (λ (v : Datum). IsFit (record { field = f; after = after }) kind v) (sym datum) fit;
  text = there ∙ sym printed ∙ ap (field_text f kind) (sym datum);
}

serves_kind : (f : ConversionSpecifier) (notation : Notation) (kind : Kind) (after row : List ℕ) (token : Token) (greatest middle n : ℕ) → f.conversion_type ≡ conversion_of notation → AreBounds kind greatest middle → IsWidened greatest middle n token.number
    → unsigned_text f n ≡ Ok (token_text row token) → IsServed f kind after row token
serves_kind f notation U8 after row token greatest middle n conversion bounds wide is =
    let same : token.number ≡ n = wide.same (omega (arith, bounds.0, bounds.1, wide.small)) in
    served f U8 after row token (natural token.number) (token_text row token) refl (omega (arith, same, bounds.0, wide.small), tt) refl (told f notation _ _ _ (token_text row token) conversion (ap (unsigned_text f) same ∙ is))
serves_kind f notation U16 after row token greatest middle n conversion bounds wide is =
    let same : token.number ≡ n = wide.same (omega (arith, bounds.0, bounds.1, wide.small)) in
    served f U16 after row token (natural token.number) (token_text row token) refl (omega (arith, same, bounds.0, wide.small), tt) refl (told f notation _ _ _ (token_text row token) conversion (ap (unsigned_text f) same ∙ is))
serves_kind f notation U32 after row token greatest middle n conversion bounds wide is =
    let same : token.number ≡ n = wide.same (omega (arith, bounds.0, bounds.1, wide.small)) in
    served f U32 after row token (natural token.number) (token_text row token) refl (omega (arith, same, bounds.0, wide.small), tt) refl (told f notation _ _ _ (token_text row token) conversion (ap (unsigned_text f) same ∙ is))
serves_kind f notation U64 after row token greatest middle n conversion bounds wide is =
    let same : token.number ≡ n = wide.same (omega (arith, bounds.0, bounds.1, wide.small)) in
    served f U64 after row token (natural token.number) (token_text row token) refl (omega (arith, same, bounds.0, wide.small), tt) refl (told f notation _ _ _ (token_text row token) conversion (ap (unsigned_text f) same ∙ is))
serves_kind f notation Usize after row token greatest middle n conversion bounds wide is =
    let same : token.number ≡ n = wide.same (omega (arith, bounds.0, bounds.1, wide.small)) in
    served f Usize after row token (natural token.number) (token_text row token) refl (omega (arith, same, bounds.0, wide.small), tt) refl (told f notation _ _ _ (token_text row token) conversion (ap (unsigned_text f) same ∙ is))
serves_kind f notation I8 after row token greatest middle n conversion bounds wide is =
    let fits : n < 2 ^ 8 = omega (arith, bounds.0, wide.small) in
    let z = cast_signed w8 n in
    served f I8 after row token (integer z) (token_text row token) (ap integer (same_number w8 n token.number greatest middle (omega (arith, bounds.0)) (omega (arith, bounds.1)) (omega (arith, bounds.0, bounds.1)) (omega (arith, bounds.1)) wide))
    (sfits_to_z {w = w8} {n = n} (omega (arith, fits)), tt) refl (told f notation _ _ _ (token_text row token) conversion (told_signed f notation z (cast_unsigned w8 z) n (token_text row token) conversion (of_z-to_z w8 n fits) is))
serves_kind f notation I16 after row token greatest middle n conversion bounds wide is =
    let fits : n < 2 ^ 16 = omega (arith, bounds.0, wide.small) in
    let z = cast_signed w16 n in
    served f I16 after row token (integer z) (token_text row token) (ap integer (same_number w16 n token.number greatest middle (omega (arith, bounds.0)) (omega (arith, bounds.1)) (omega (arith, bounds.0, bounds.1)) (omega (arith, bounds.1)) wide))
    (sfits_to_z {w = w16} {n = n} (omega (arith, fits)), tt) refl (told f notation _ _ _ (token_text row token) conversion (told_signed f notation z (cast_unsigned w16 z) n (token_text row token) conversion (of_z-to_z w16 n fits) is))
serves_kind f notation I32 after row token greatest middle n conversion bounds wide is =
    let fits : n < 2 ^ 32 = omega (arith, bounds.0, wide.small) in
    let z = cast_signed w32 n in
    served f I32 after row token (integer z) (token_text row token) (ap integer (same_number w32 n token.number greatest middle (omega (arith, bounds.0)) (omega (arith, bounds.1)) (omega (arith, bounds.0, bounds.1)) (omega (arith, bounds.1)) wide))
    (sfits_to_z {w = w32} {n = n} (omega (arith, fits)), tt) refl (told f notation _ _ _ (token_text row token) conversion (told_signed f notation z (cast_unsigned w32 z) n (token_text row token) conversion (of_z-to_z w32 n fits) is))
serves_kind f notation I64 after row token greatest middle n conversion bounds wide is =
    let fits : n < 2 ^ 64 = omega (arith, bounds.0, wide.small) in
    let z = cast_signed w64 n in
    served f I64 after row token (integer z) (token_text row token) (ap integer (same_number w64 n token.number greatest middle (omega (arith, bounds.0)) (omega (arith, bounds.1)) (omega (arith, bounds.0, bounds.1)) (omega (arith, bounds.1)) wide))
    (sfits_to_z {w = w64} {n = n} (omega (arith, fits)), tt) refl (told f notation _ _ _ (token_text row token) conversion (told_signed f notation z (cast_unsigned w64 z) n (token_text row token) conversion (of_z-to_z w64 n fits) is))
serves_kind f notation Isize after row token greatest middle n conversion bounds wide is =
    let fits : n < 2 ^ 64 = omega (arith, bounds.0, wide.small) in
    let z = cast_signed w64 n in
    served f Isize after row token (integer z) (token_text row token) (ap integer (same_number w64 n token.number greatest middle (omega (arith, bounds.0)) (omega (arith, bounds.1)) (omega (arith, bounds.0, bounds.1)) (omega (arith, bounds.1)) wide))
    (sfits_to_z {w = w64} {n = n} (omega (arith, fits)), tt) refl (told f notation _ _ _ (token_text row token) conversion (told_signed f notation z (cast_unsigned w64 z) n (token_text row token) conversion (of_z-to_z w64 n fits) is))
serves_kind f notation _ after row token greatest middle n conversion bounds wide is = absurd bounds

bounds_small : (kind : Kind) (greatest middle : ℕ) → AreBounds kind greatest middle → greatest < 18446744073709551616
bounds_small U8 greatest middle is = omega (arith, is.0)
bounds_small U16 greatest middle is = omega (arith, is.0)
bounds_small U32 greatest middle is = omega (arith, is.0)
bounds_small U64 greatest middle is = omega (arith, is.0)
bounds_small Usize greatest middle is = omega (arith, is.0)
bounds_small I8 greatest middle is = omega (arith, is.0)
bounds_small I16 greatest middle is = omega (arith, is.0)
bounds_small I32 greatest middle is = omega (arith, is.0)
bounds_small I64 greatest middle is = omega (arith, is.0)
bounds_small Isize greatest middle is = omega (arith, is.0)
bounds_small _ greatest middle is = absurd is

pub serves_bits : NumeralOfValue → (f : ConversionSpecifier) (kind : Kind) (after : List ℕ) (notation : Notation) (width inner most greatest middle : ℕ) → f.conversion_type ≡ conversion_of notation → number_of f.width ≡ Some width → IsFilledByZeros f width
    → inner ≡ width - length (prefix_in notation f.alt_form) → AreBounds kind greatest middle → Serves f kind after (Bits (record { notation = notation; prefix = f.alt_form; width = inner; most = most; greatest = greatest; middle = middle }))
serves_bits law f kind after notation width inner most greatest middle conversion wide zeros room bounds row token shape =
    serves_kind f notation kind after row token greatest middle shape.bits conversion bounds shape.wide
    (form_text law f notation width inner shape.bits (token_text row token) shape.digits conversion wide zeros room shape.whole shape.filled (omega (arith, shape.wide.small, bounds_small kind greatest middle bounds)))
