-- A number in decimal.
use Rattle.std.proofs.Common.{◌≡◌, ◌⊎◌, ◌<◌, ◌≤◌, ◌+◌, ◌-◌, ◌^◌, ℕ, suc, pos, negsuc, Bool, true, false, cond, List, [], ◌∷◌, ◌++◌, length, replicate, Option, Some, sym, ap, subst, refl, inl, inr, ◌∙◌, arith, eqb, ne_eqb, FitsSigned, w8, w16, w32, w64}
use Rattle.std.specs.Char.{digit_value}
use Rattle.std.specs.Int.{Width}
use Rattle.std.specs.Str.Parse.{ParsesUnsigned, ParsesSigned, digits_value, without_leading_plus}
use Rattle.numerals.specs.Numeral.{numeral}
use Rattle.sprintf.specs.declared.parser.ConversionType.TheVariants.{DecInt}
use Rattle.scan_fmt.specs.Grammar.{Number, Decimal}
use Rattle.scan_fmt.specs.Scanned.{IsSigned}
use Rattle.scan_fmt.specs.Values.{ReadsBy}
use Rattle.values.specs.declared.kind.Kind.{Kind}
use Rattle.values.specs.Datum.{natural, integer}
use Rattle.row_format.specs.Plannable.{by_bits}
use Rattle.row_laws.specs.Inner.Directives.{limit_when}
use Rattle.row_laws.proofs.Fields.Longest.{decimal_longest}
use Rattle.row_laws.proofs.Fields.Digits.{Body, numeral_body, zeros_body, digits_up, digits_signed, digits_kept}
use Rattle.row_laws.proofs.Fields.Shown.{Standing}
use Rattle.row_laws.proofs.Fields.Layout.{filled, Parts, Full, number_standing}

reads_nat : (bits n : ℕ) (t : List ℕ) → Body 10 n t → n < 2 ^ bits → ReadsBy (ParsesUnsigned bits 10) t (Some n)
reads_nat bits n t b small =
    let same : without_leading_plus t ≡ t = digits_kept t b.each in
    rw same (((b.some, b.each), omega (arith, b.value, small)), sym b.value)

not_sign : (c d : ℕ) → digit_value c < 10 → (d ≡ 43) ⊎ (d ≡ 45) → c ≡ d → ⊥
not_sign c d h (inl k) e = let bad : digit_value 43 < 10 = subst (λ x. digit_value x < 10) (e ∙ k) h in omega (arith, bad)
not_sign c d h (inr k) e = let bad : digit_value 45 < 10 = subst (λ x. digit_value x < 10) (e ∙ k) h in omega (arith, bad)

reads_pos : (w : Width) (n : ℕ) (t : List ℕ) → Body 10 n t → FitsSigned w (pos n) → ReadsBy (ParsesSigned w 10) t (Some (pos n))
reads_pos w n [] b fits = absurd (omega (arith, b.some))
reads_pos w n (c ∷ cs) b fits =
    let minus : eqb c 45 ≡ false = ne_eqb c 45 (λ e. not_sign c 45 (b.each).0 (inr refl) e) in
    let plus : eqb c 43 ≡ false = ne_eqb c 43 (λ e. not_sign c 43 (b.each).0 (inl refl) e) in
    let v : digits_value 10 (c ∷ cs) ≡ n = b.value in
    rw (minus, plus) (((b.some, b.each), subst (λ m. FitsSigned w (pos m)) (sym v) fits), ap pos (sym v))

reads_neg : (w : Width) (n : ℕ) (t : List ℕ) → Body 10 (suc n) t → FitsSigned w (negsuc n) → ReadsBy (ParsesSigned w 10) (45 ∷ t) (Some (negsuc n))
reads_neg w n t b fits =
    let v : digits_value 10 t ≡ suc n = b.value in
    rw v (((b.some, b.each), fits), refl)

zeros_before : (n z : ℕ) → n < 2 ^ 128 → Body 10 n (replicate z 48 ++ numeral 10 false n)
zeros_before n z small = zeros_body 10 n z (numeral 10 false n) (omega arith) (numeral_body 10 n false (omega arith) (omega arith) small)

nat_parts : (bits n : ℕ) → n < 2 ^ 128 → n < 2 ^ bits → Parts IsSigned (λ t. ReadsBy (ParsesUnsigned bits 10) (without_leading_plus t) (Some n)) [] [] (numeral 10 false n)
nat_parts bits n wide small = record {
  front_plain = tt;
  mid_plain = tt;
  each = λ z. digits_up 10 16 _ (omega arith) (zeros_before n z wide).each;
  some = (numeral_body 10 n false (omega arith) (omega arith) wide).some;
  shape = λ z. digits_signed _ (zeros_before n z wide).each;
  reads = λ z. let b = zeros_before n z wide in rw (digits_kept _ b.each) (reads_nat bits n _ b small);
}

pos_parts : (w : Width) (n : ℕ) → n < 2 ^ 128 → FitsSigned w (pos n) → Parts IsSigned (λ t. ReadsBy (ParsesSigned w 10) (without_leading_plus t) (Some (pos n))) [] [] (numeral 10 false n)
pos_parts w n wide fits = record {
  front_plain = tt;
  mid_plain = tt;
  each = λ z. digits_up 10 16 _ (omega arith) (zeros_before n z wide).each;
  some = (numeral_body 10 n false (omega arith) (omega arith) wide).some;
  shape = λ z. digits_signed _ (zeros_before n z wide).each;
  reads = λ z. let b = zeros_before n z wide in rw (digits_kept _ b.each) (reads_pos w n _ b fits);
}

plus_parts : (w : Width) (n : ℕ) → n < 2 ^ 128 → FitsSigned w (pos n) → Parts IsSigned (λ t. ReadsBy (ParsesSigned w 10) (without_leading_plus t) (Some (pos n))) [] (43 ∷ []) (numeral 10 false n)
plus_parts w n wide fits = record {
  front_plain = tt;
  mid_plain = ((omega arith, refl), tt);
  each = λ z. digits_up 10 16 _ (omega arith) (zeros_before n z wide).each;
  some = (numeral_body 10 n false (omega arith) (omega arith) wide).some;
  shape = λ z. (inl refl, (zeros_before n z wide).each);
  reads = λ z. reads_pos w n _ (zeros_before n z wide) fits;
}

neg_parts : (w : Width) (n : ℕ) → suc n < 2 ^ 128 → FitsSigned w (negsuc n) → Parts IsSigned (λ t. ReadsBy (ParsesSigned w 10) (without_leading_plus t) (Some (negsuc n))) [] (45 ∷ []) (numeral 10 false (suc n))
neg_parts w n wide fits = record {
  front_plain = tt;
  mid_plain = ((omega arith, refl), tt);
  each = λ z. digits_up 10 16 _ (omega arith) (zeros_before (suc n) z wide).each;
  some = (numeral_body 10 (suc n) false (omega arith) (omega arith) wide).some;
  shape = λ z. (inr (inl refl), (zeros_before (suc n) z wide).each);
  reads = λ z. reads_neg w n _ (zeros_before (suc n) z wide) fits;
}

-- what an exact field is: no `-`, no space flag, zeros, and a width that no number passes
pub record Exact (left pads space : Bool) (greatest width : ℕ) : Type 0 where
  pub zeros : pads ≡ true
  pub right : left ≡ false
  pub no_space : space ≡ false
  pub fits : greatest ≤ width

pub full_from : (left pads space : Bool) (n greatest width : ℕ) → n ≤ greatest → Exact left pads space greatest width → Full left pads 0 n width
full_from left pads space n greatest width le e = record { zeros = e.zeros; right = e.right; no_space = refl; fits = omega (arith, le, e.fits) }

pub natural_decimal : (kind : Kind) (n : ℕ) (exact : Bool) (end : Option ℕ) (left pads space : Bool) (width greatest : ℕ) → n < 2 ^ 128 → n < 2 ^ by_bits 8 16 32 64 kind → length (numeral 10 false n) ≤ greatest
    → (exact ≡ true → Exact left pads space greatest width)
    → Standing DecInt kind (natural n) exact end [] (Number Decimal (limit_when exact width)) (filled left pads (width - (0 + length (numeral 10 false n))) [] (numeral 10 false n))
natural_decimal kind n exact end left pads space width greatest wide small most is =
    number_standing DecInt kind (natural n) exact end (Number Decimal (limit_when exact width)) IsSigned left pads width width 0 [] [] (numeral 10 false n) (nat_parts (by_bits 8 16 32 64 kind) n wide small)
    (decimal_longest exact width) (λ e. full_from left pads space _ greatest width (omega (arith, most)) (is e)) (omega arith)

-- the sign of a number that isn't negative
abbrev pub plus_sign : Bool → Bool → List ℕ
plus_sign plus space = cond plus (43 ∷ []) (cond space (32 ∷ []) [])

pub positive_decimal : (kind : Kind) (n : ℕ) (exact : Bool) (end : Option ℕ) (left pads plus space : Bool) (width greatest : ℕ) → n < 2 ^ 128 → FitsSigned (by_bits w8 w16 w32 w64 kind) (pos n) → length (numeral 10 false n) + 1 ≤ greatest
    → (exact ≡ true → Exact left pads space greatest width)
    → Standing DecInt kind (integer (pos n)) exact end [] (Number Decimal (limit_when exact width)) (filled left pads (width - (length (plus_sign plus space) + length (numeral 10 false n))) (plus_sign plus space) (numeral 10 false n))
positive_decimal kind n exact end left pads true space width greatest wide fits most is =
    number_standing DecInt kind (integer (pos n)) exact end (Number Decimal (limit_when exact width)) IsSigned left pads width width 0 [] (43 ∷ []) (numeral 10 false n) (plus_parts (by_bits w8 w16 w32 w64 kind) n wide fits)
    (decimal_longest exact width) (λ e. full_from left pads space _ greatest width (omega (arith, most)) (is e)) (omega arith)
positive_decimal kind n exact end left pads false true width greatest wide fits most is =
    number_standing DecInt kind (integer (pos n)) exact end (Number Decimal (limit_when exact width)) IsSigned left pads width width 1 [] [] (numeral 10 false n) (pos_parts (by_bits w8 w16 w32 w64 kind) n wide fits)
    (decimal_longest exact width) (λ e. absurd (let bad : true ≡ false = (is e).no_space in cc)) (omega arith)
positive_decimal kind n exact end left pads false false width greatest wide fits most is =
    number_standing DecInt kind (integer (pos n)) exact end (Number Decimal (limit_when exact width)) IsSigned left pads width width 0 [] [] (numeral 10 false n) (pos_parts (by_bits w8 w16 w32 w64 kind) n wide fits)
    (decimal_longest exact width) (λ e. full_from left pads false _ greatest width (omega (arith, most)) (is e)) (omega arith)

pub negative_decimal : (kind : Kind) (n : ℕ) (exact : Bool) (end : Option ℕ) (left pads space : Bool) (width greatest : ℕ) → suc n < 2 ^ 128 → FitsSigned (by_bits w8 w16 w32 w64 kind) (negsuc n) → length (numeral 10 false (suc n)) + 1 ≤ greatest
    → (exact ≡ true → Exact left pads space greatest width)
    → Standing DecInt kind (integer (negsuc n)) exact end [] (Number Decimal (limit_when exact width)) (filled left pads (width - (1 + length (numeral 10 false (suc n)))) (45 ∷ []) (numeral 10 false (suc n)))
negative_decimal kind n exact end left pads space width greatest wide fits most is =
    number_standing DecInt kind (integer (negsuc n)) exact end (Number Decimal (limit_when exact width)) IsSigned left pads width width 0 [] (45 ∷ []) (numeral 10 false (suc n)) (neg_parts (by_bits w8 w16 w32 w64 kind) n wide fits)
    (decimal_longest exact width) (λ e. full_from left pads space _ greatest width (omega (arith, most)) (is e)) (omega arith)
