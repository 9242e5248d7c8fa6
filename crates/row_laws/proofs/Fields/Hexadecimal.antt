-- A number in base 16. A scan takes the prefix `0x` and drops it; the prefix `0X` stands in front of what it takes.
use Rattle.std.proofs.Common.{◌≡◌, ◌<◌, ◌≤◌, ◌+◌, ◌-◌, ◌^◌, ◌&&◌, ℕ, Bool, true, false, cond, List, [], ◌∷◌, ◌++◌, length, drop, replicate, Option, refl, subst, arith, eqb, ne_eqb}
use Rattle.std.specs.Char.{digit_value}
use Rattle.std.specs.Str.Parse.{AllDigits}
use Rattle.numerals.specs.Numeral.{numeral, IsDigitText, text_value}
use Rattle.sprintf.specs.declared.parser.ConversionType.TheVariants.{HexIntLower, HexIntUpper}
use Rattle.scan_fmt.specs.Grammar.{Number, Hexadecimal}
use Rattle.scan_fmt.specs.Inner.Found.{IsPrefixed, without_0x}
use Rattle.values.specs.declared.kind.Kind.{Kind}
use Rattle.values.specs.Datum.{Datum}
use Rattle.row_format.specs.Row.{Reads}
use Rattle.row_laws.specs.Inner.Directives.{limit_when, upper_limit}
use Rattle.row_laws.proofs.Fields.Spaces.{AllPlain}
use Rattle.row_laws.proofs.Fields.Longest.{hexadecimal_longest}
use Rattle.row_laws.proofs.Fields.Digits.{Body, numeral_body, zeros_body, body_stands, digits_prefixed}
use Rattle.row_laws.proofs.Fields.Shown.{Standing}
use Rattle.row_laws.proofs.Fields.Layout.{filled, when, Parts, number_standing}
use Rattle.row_laws.proofs.Fields.Decimal.{Exact, full_from}

zeros_before : (n z : ℕ) (upper : Bool) → n < 2 ^ 128 → Body 16 n (replicate z 48 ++ numeral 16 upper n)
zeros_before n z upper small = zeros_body 16 n z (numeral 16 upper n) (omega arith) (numeral_body 16 n upper (omega arith) (omega arith) small)

never_both : (first : Bool) (t : List ℕ) → cond (first && false) (drop 2 t) t ≡ t
never_both true t = refl
never_both false t = refl

-- there is no prefix to be dropped
keeps_digits : (t : List ℕ) → AllDigits 16 t → without_0x t ≡ t
keeps_digits [] h = refl
keeps_digits (a ∷ []) h = never_both (eqb a 48) (a ∷ [])
keeps_digits (a ∷ b ∷ t) h =
    let other : eqb b 120 ≡ false = ne_eqb b 120 (λ e. let bad : digit_value 120 < 16 = subst (λ x. digit_value x < 16) e h.1.0 in omega (arith, bad)) in
    rw other (never_both (eqb a 48) (a ∷ b ∷ t))

module _ (n : ℕ) (upper : Bool) (wide : n < 2 ^ 128) (Q : List ℕ → Type 0) (stands : (t : List ℕ) → IsDigitText 16 t × (text_value 16 t ≡ n) → Q t) where
  reads : (t : List ℕ) → Body 16 n t → Q (without_0x t)
  reads t b = rw (keeps_digits t b.each) (stands t (body_stands 16 n t b))

  -- behind a front that the scan passes, or none
  parts : (front : List ℕ) → AllPlain front → Parts IsPrefixed (λ t. Q (without_0x t)) front [] (numeral 16 upper n)
  parts front plain = record {
    front_plain = plain;
    mid_plain = tt;
    each = λ z. (zeros_before n z upper wide).each;
    some = (numeral_body 16 n upper (omega arith) (omega arith) wide).some;
    shape = λ z. digits_prefixed _ (zeros_before n z upper wide).each;
    reads = λ z. reads _ (zeros_before n z upper wide);
  }

  prefix_parts : Parts IsPrefixed (λ t. Q (without_0x t)) [] (48 ∷ 120 ∷ []) (numeral 16 upper n)
  prefix_parts = record {
    front_plain = tt;
    mid_plain = ((omega arith, refl), ((omega arith, refl), tt));
    each = λ z. (zeros_before n z upper wide).each;
    some = (numeral_body 16 n upper (omega arith) (omega arith) wide).some;
    shape = λ z. (48 ∷ [], 120 ∷ [], _, refl, (refl, refl), (refl, refl), (zeros_before n z upper wide).each);
    reads = λ z. stands _ (body_stands 16 n _ (zeros_before n z upper wide));
  }

pub lower : (kind : Kind) (value : Datum) (n : ℕ) (exact : Bool) (end : Option ℕ) (alt left pads space : Bool) (width digits : ℕ) → n < 2 ^ 128 → ((t : List ℕ) → IsDigitText 16 t × (text_value 16 t ≡ n) → Reads HexIntLower kind t value)
    → length (numeral 16 false n) ≤ digits → (exact ≡ true → Exact left pads space (length (when alt (48 ∷ 120 ∷ [])) + digits) width)
    → Standing HexIntLower kind value exact end [] (Number Hexadecimal (limit_when exact width)) (filled left pads (width - (length (when alt (48 ∷ 120 ∷ [])) + length (numeral 16 false n))) (when alt (48 ∷ 120 ∷ [])) (numeral 16 false n))
lower kind value n exact end false left pads space width digits wide stands most is =
    number_standing HexIntLower kind value exact end (Number Hexadecimal (limit_when exact width)) IsPrefixed left pads width width 0 [] [] (numeral 16 false n) (parts n false wide (λ t. Reads HexIntLower kind t value) stands [] tt)
    (λ taken rest _. hexadecimal_longest exact width taken rest) (λ e. full_from left pads space _ _ width (omega (arith, most)) (is e)) (omega arith)
lower kind value n exact end true left pads space width digits wide stands most is =
    number_standing HexIntLower kind value exact end (Number Hexadecimal (limit_when exact width)) IsPrefixed left pads width width 0 [] (48 ∷ 120 ∷ []) (numeral 16 false n) (prefix_parts n false wide (λ t. Reads HexIntLower kind t value) stands)
    (λ taken rest _. hexadecimal_longest exact width taken rest) (λ e. full_from left pads space _ _ width (omega (arith, most)) (is e)) (omega arith)

pub upper : (kind : Kind) (value : Datum) (n : ℕ) (exact : Bool) (end : Option ℕ) (alt left pads space : Bool) (width digits : ℕ) → n < 2 ^ 128 → ((t : List ℕ) → IsDigitText 16 t × (text_value 16 t ≡ n) → Reads HexIntUpper kind t value)
    → length (numeral 16 true n) ≤ digits → (exact ≡ true → Exact left pads space (length (when alt (48 ∷ 88 ∷ [])) + digits) width)
    → Standing HexIntUpper kind value exact end (when alt (48 ∷ 88 ∷ [])) (Number Hexadecimal (upper_limit alt exact width)) (filled left pads (width - (length (when alt (48 ∷ 88 ∷ [])) + length (numeral 16 true n))) (when alt (48 ∷ 88 ∷ [])) (numeral 16 true n))
upper kind value n exact end false left pads space width digits wide stands most is =
    number_standing HexIntUpper kind value exact end (Number Hexadecimal (limit_when exact width)) IsPrefixed left pads width width 0 [] [] (numeral 16 true n) (parts n true wide (λ t. Reads HexIntUpper kind t value) stands [] tt)
    (λ taken rest _. hexadecimal_longest exact width taken rest) (λ e. full_from left pads space _ _ width (omega (arith, most)) (is e)) (omega arith)
upper kind value n exact end true left pads space width digits wide stands most is =
    number_standing HexIntUpper kind value exact end (Number Hexadecimal (limit_when exact (width - 2))) IsPrefixed left pads width (width - 2) 0 (48 ∷ 88 ∷ []) [] (numeral 16 true n)
    (parts n true wide (λ t. Reads HexIntUpper kind t value) stands (48 ∷ 88 ∷ []) ((omega arith, refl), ((omega arith, refl), tt)))
    (λ taken rest _. hexadecimal_longest exact (width - 2) taken rest) (λ e. full_from left pads space _ _ width (omega (arith, most)) (is e)) (omega arith)
