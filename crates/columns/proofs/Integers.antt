-- What fields print of the numbers with signs that are taken.
use Rattle.std.proofs.Common.{◌≡◌, ◌⊎◌, ◌<◌, ◌≤◌, ◌+◌, ◌-◌, suc, ℕ, ℤ, pos, negsuc, Bool, true, false, if◌then◌else◌, List, [], ◌∷◌, ◌++◌, Some, Result, Ok, codes, unsigned_abs, inl, inr, sym, ap, subst, refl, ◌∙◌, ⊎_elim, arith, append_assoc}
use Rattle.std.specs.Int.{w64, cast_signed}
use Rattle.std.specs.Str.{byte, IsUtf8}
use Rattle.std.proofs.lemmas.Fmt.{IsAscii-from_digits}
use Rattle.std.proofs.lemmas.Int.{to_z_pos}
use Rattle.std.proofs.Math.Facts.{to_z-neg}
use Rattle.std.proofs.lemmas.Str.{encode_ascii, IsUtf8-append, IsUtf8-nil, IsUtf8-from_ascii}
use Rattle.numerals.specs.Laws.{NumeralOfValue}
use Rattle.numerals.specs.Numeral.{numeral}
use Rattle.sprintf.specs.declared.PrintfError.{PrintfError}
use Rattle.sprintf.specs.declared.parser.ConversionSpecifier.{ConversionSpecifier}
use Rattle.sprintf.specs.declared.parser.ConversionType.{ConversionType}
use Rattle.sprintf.specs.declared.parser.ConversionType.TheVariants.{DecInt}
use Rattle.sprintf.specs.Field.{number_of, number_text, signed_text, sign_of}
use Rattle.sprintf.specs.Meaning.{by_conversion}
use Rattle.values.specs.declared.kind.Kind.{Kind}
use Rattle.values.specs.declared.kind.Kind.TheVariants.{I8, I16, I32, I64, Isize}
use Rattle.values.specs.Datum.{Datum, integer, IsOfKind}
use Rattle.row_format.specs.Columns.{field_text}
use Rattle.row_format.specs.Inner.Elements.{text_or_none}
use Rattle.row_format.specs.Fit.{IsFit}
use Rattle.columns.specs.Fields.{token_text}
use Rattle.columns.specs.Inner.Serves.{Serves, IsServed, IsGreatestSigned}
use Rattle.columns.specs.Inner.Shapes.{IsNatural, IsNaturalInFront, IsNegative, IsPositive, IsTaken, plus_sign}
use Rattle.columns.specs.declared.take.Take.TheVariants.{Natural, Integer}
use Rattle.columns.proofs.Fields.{natural_text, bare_number, by_decimal}
use Rattle.tokens.specs.Tokens.{datum_at}
use Rattle.tokens.specs.declared.Token.{Token}

digits_utf8 : (text : List ℕ) (number : ℕ) → IsNatural 10 false text number → IsUtf8 text
digits_utf8 text number is = IsUtf8-from_ascii text (IsAscii-from_digits text is.digits.digits)

sign_utf8 : (plus : Bool) → IsUtf8 (plus_sign plus)
sign_utf8 true = (43 ∷ [], (refl, ap (λ (t : List ℕ). t ++ []) (encode_ascii 43 (omega arith))))
sign_utf8 false = IsUtf8-nil

pub integer_utf8 : (greatest : ℕ) (plus : Bool) (text : List ℕ) (number : ℕ) → (IsNegative greatest text number ⊎ IsPositive greatest (plus_sign plus) text number) → IsUtf8 text
integer_utf8 greatest plus text number shape = ⊎_elim
    (λ (n : IsNegative greatest text number). subst IsUtf8 (sym n.whole) (IsUtf8-append (byte "-" ∷ []) n.digits (45 ∷ [], (refl, ap (λ (t : List ℕ). t ++ []) (encode_ascii 45 (omega arith)))) (digits_utf8 n.digits n.size n.natural)))
    (λ (p : IsPositive greatest (plus_sign plus) text number). subst IsUtf8 (sym p.whole) (IsUtf8-append (plus_sign plus) p.digits (sign_utf8 plus) (digits_utf8 p.digits number p.natural)))
    shape

pub negative_taken : (text behind rest : List ℕ) (size number greatest : ℕ) (plus : Bool) → text ≡ byte "-" ∷ [] ++ behind → IsNaturalInFront behind size rest → 0 < size → size ≤ greatest + 1 → number + size ≡ 18446744073709551616 → IsTaken (Integer greatest plus) text number rest
negative_taken text behind rest size number greatest plus sign front some small complement = record {
  token = byte "-" ∷ front.token;
  whole = sign ∙ ap (λ (t : List ℕ). byte "-" ∷ t) front.whole;
  shape = inl (record { digits = front.token; size = size; whole = refl; natural = front.shape; some = some; small = small; complement = complement });
}

pub positive_taken : (text behind rest : List ℕ) (number greatest : ℕ) (plus : Bool) → text ≡ plus_sign plus ++ behind → IsTaken (Natural greatest) behind number rest → IsTaken (Integer greatest plus) text number rest
positive_taken text behind rest number greatest plus sign taken = record {
  token = plus_sign plus ++ taken.token;
  whole = sign ∙ ap (λ (t : List ℕ). plus_sign plus ++ t) taken.whole ∙ sym (append_assoc (plus_sign plus) taken.token rest);
  shape = inr (record { digits = taken.token; whole = refl; natural = taken.shape.0; small = taken.shape.1 });
}

sign_by : (force space : Bool) → space ≡ false → (if force then codes "+" else (if space then codes " " else [])) ≡ plus_sign force
sign_by true space e = refl
sign_by false true e = cc
sign_by false false e = refl

told_signed : (f : ConversionSpecifier) (z : ℤ) (complement : ℕ) (text : List ℕ) (character word : Result (List ℕ) PrintfError) → f.conversion_type ≡ DecInt → number_text f (sign_of f z) (unsigned_abs z) ≡ Ok text
    → text_or_none (by_conversion f.conversion_type (signed_text f.conversion_type f z complement) character word) ≡ text
told_signed f z complement text character word decimal is =
    ap text_or_none (by_decimal f.conversion_type (signed_text f.conversion_type f z complement) character word decimal ∙ ap (λ (k : ConversionType). signed_text k f z complement) decimal ∙ is)

-- the field of a kind with signs prints the text of a signed number
signed_field : (f : ConversionSpecifier) (kind : Kind) (greatest : ℕ) (z : ℤ) (text : List ℕ) → f.conversion_type ≡ DecInt → number_text f (sign_of f z) (unsigned_abs z) ≡ Ok text → IsGreatestSigned kind greatest → field_text f kind (integer z) ≡ text
signed_field f I8 greatest z text decimal told is = told_signed f z _ text _ _ decimal told
signed_field f I16 greatest z text decimal told is = told_signed f z _ text _ _ decimal told
signed_field f I32 greatest z text decimal told is = told_signed f z _ text _ _ decimal told
signed_field f I64 greatest z text decimal told is = told_signed f z _ text _ _ decimal told
signed_field f Isize greatest z text decimal told is = told_signed f z _ text _ _ decimal told
signed_field f _ greatest z text decimal told is = absurd is

signed_datum : (kind : Kind) (greatest : ℕ) (row : List ℕ) (token : Token) → IsGreatestSigned kind greatest → datum_at kind row token ≡ integer (cast_signed w64 token.number)
signed_datum I8 greatest row token is = refl
signed_datum I16 greatest row token is = refl
signed_datum I32 greatest row token is = refl
signed_datum I64 greatest row token is = refl
signed_datum Isize greatest row token is = refl
signed_datum _ greatest row token is = absurd is

positive_range : (kind : Kind) (greatest n : ℕ) → IsGreatestSigned kind greatest → n ≤ greatest → IsOfKind kind (integer (pos n)) × (n < 9223372036854775808)
positive_range I8 greatest n is le = (record { sfits = omega (arith, is, le) }, omega (arith, is, le))
positive_range I16 greatest n is le = (record { sfits = omega (arith, is, le) }, omega (arith, is, le))
positive_range I32 greatest n is le = (record { sfits = omega (arith, is, le) }, omega (arith, is, le))
positive_range I64 greatest n is le = (record { sfits = omega (arith, is, le) }, omega (arith, is, le))
positive_range Isize greatest n is le = (record { sfits = omega (arith, is, le) }, omega (arith, is, le))
positive_range _ greatest n is le = absurd is

negative_range : (kind : Kind) (greatest n : ℕ) → IsGreatestSigned kind greatest → n ≤ greatest → IsOfKind kind (integer (negsuc n)) × (n < 9223372036854775808)
negative_range I8 greatest n is le = (record { sfits = omega (arith, is, le) }, omega (arith, is, le))
negative_range I16 greatest n is le = (record { sfits = omega (arith, is, le) }, omega (arith, is, le))
negative_range I32 greatest n is le = (record { sfits = omega (arith, is, le) }, omega (arith, is, le))
negative_range I64 greatest n is le = (record { sfits = omega (arith, is, le) }, omega (arith, is, le))
negative_range Isize greatest n is le = (record { sfits = omega (arith, is, le) }, omega (arith, is, le))
negative_range _ greatest n is le = absurd is

served : (f : ConversionSpecifier) (kind : Kind) (after row : List ℕ) (token : Token) (greatest : ℕ) (z : ℤ) → IsGreatestSigned kind greatest → cast_signed w64 token.number ≡ z → IsOfKind kind (integer z) → token_text row token ≡ field_text f kind (integer z) → IsServed f kind after row token
served f kind after row token greatest z is same range text =
    let datum : datum_at kind row token ≡ integer z = signed_datum kind greatest row token is ∙ ap integer same in
    record {
      fit = subst (λ (d : Datum). IsFit (record { field = f; after = after }) kind d) (sym datum) (range, tt);
      text = text ∙ ap (field_text f kind) (sym datum);
    }

serves_negative : NumeralOfValue → (f : ConversionSpecifier) (kind : Kind) (after row : List ℕ) (token : Token) (greatest : ℕ) → f.conversion_type ≡ DecInt → number_of f.width ≡ Some 0 → IsGreatestSigned kind greatest → IsNegative greatest (token_text row token) token.number → IsServed f kind after row token
serves_negative law f kind after row token greatest decimal width is n =
    let k = n.size - 1 in
    let size : suc k ≡ n.size = omega (arith, n.some) in
    let range = negative_range kind greatest k is (omega (arith, n.small, n.some)) in
    let number : token.number ≡ 18446744073709551616 - suc k = omega (arith, n.complement, size) in
    let digits : n.digits ≡ numeral 10 false (suc k) = natural_text law 10 false n.digits n.size (omega arith) (omega arith) n.natural (omega (arith, n.small, n.some, range.1)) ∙ ap (numeral 10 false) (sym size) in
    served f kind after row token greatest (negsuc k) is (ap (cast_signed w64) number ∙ to_z-neg w64 k range.1) range.0
    (n.whole ∙ ap (λ (t : List ℕ). byte "-" ∷ t) digits ∙ sym (signed_field f kind greatest (negsuc k) (codes "-" ++ numeral 10 false (suc k)) decimal (bare_number f (codes "-") (suc k) decimal width) is))

serves_positive : NumeralOfValue → (f : ConversionSpecifier) (kind : Kind) (after row : List ℕ) (token : Token) (greatest : ℕ) → f.conversion_type ≡ DecInt → number_of f.width ≡ Some 0 → f.space_sign ≡ false → IsGreatestSigned kind greatest → IsPositive greatest (plus_sign f.force_sign) (token_text row token) token.number → IsServed f kind after row token
serves_positive law f kind after row token greatest decimal width space is p =
    let n = token.number in
    let range = positive_range kind greatest n is p.small in
    let digits : p.digits ≡ numeral 10 false n = natural_text law 10 false p.digits n (omega arith) (omega arith) p.natural (omega (arith, range.1)) in
    let told : number_text f (sign_of f (pos n)) n ≡ Ok (plus_sign f.force_sign ++ numeral 10 false n) = bare_number f (sign_of f (pos n)) n decimal width ∙ ap (λ (s : List ℕ). Ok (s ++ numeral 10 false n)) (sign_by f.force_sign f.space_sign space) in
    served f kind after row token greatest (pos n) is (to_z_pos w64 n range.1) range.0
    (p.whole ∙ ap (λ (t : List ℕ). plus_sign f.force_sign ++ t) digits ∙ sym (signed_field f kind greatest (pos n) (plus_sign f.force_sign ++ numeral 10 false n) decimal told is))

pub serves_integer : NumeralOfValue → (f : ConversionSpecifier) (kind : Kind) (after : List ℕ) (greatest : ℕ) → f.conversion_type ≡ DecInt → number_of f.width ≡ Some 0 → f.space_sign ≡ false → IsGreatestSigned kind greatest → Serves f kind after (Integer greatest f.force_sign)
serves_integer law f kind after greatest decimal width space is row token shape = ⊎_elim
    (λ (n : IsNegative greatest (token_text row token) token.number). serves_negative law f kind after row token greatest decimal width is n)
    (λ (p : IsPositive greatest (plus_sign f.force_sign) (token_text row token) token.number). serves_positive law f kind after row token greatest decimal width space is p)
    shape
