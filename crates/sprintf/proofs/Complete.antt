-- Each spelling of a field is read as that field, whatever follows it.
use Rattle.std.proofs.Common.{◌≡◌, ◌≢◌, ◌==◌, ℕ, zero, suc, ◌<◌, ◌≤◌, ◌⊎◌, inl, inr, Bool, true, false, not, ◌&&◌, ◌||◌, pos, List, [], ◌∷◌, ◌++◌, length, take, drop, get_or, Option, Some, None, codes, slice_index, refl, sym, ap, ◌∙◌, subst, arith, append_assoc, eqb}
use Rattle.std.specs.Char.{is_ascii_digit}
use Rattle.std.specs.List.{prefix_len, AllByRecursion, AllPass, Contains}
use Rattle.std.proofs.lemmas.Bool.{and_parts}
use Rattle.std.proofs.lemmas.Bool.Decides.{nat_tests}
use Rattle.std.proofs.lemmas.Grind.{common_steps}
use Rattle.std.proofs.lemmas.List.Sums.{prefix_len_is}
use Rattle.sprintf.specs.declared.parser.ConversionSpecifier.{ConversionSpecifier}
use Rattle.sprintf.specs.declared.parser.ConversionType.{ConversionType}
use Rattle.sprintf.specs.declared.parser.ConversionType.TheVariants.{DecInt, OctInt, HexIntLower, HexIntUpper, SciFloatLower, SciFloatUpper, DecFloatLower, DecFloatUpper, CompactFloatLower, CompactFloatUpper, Char, String, PercentSign}
use Rattle.sprintf.specs.declared.parser.NumericParam.{NumericParam}
use Rattle.sprintf.specs.declared.parser.NumericParam.TheVariants.{Literal, FromArgument}
use Rattle.sprintf.specs.Grammar.{has, is_flag, IsCount, IsWidth, IsPrecision, no_width, star_width, digits_width, no_precision, bare_precision, star_precision, digits_precision, length_modifiers, letters_of, IsField}
use Rattle.sprintf.specs.Inner.Reading.{read_field, read_param, read_precision, read_count, read_letter, skip_one, conversion_of, precision_or_default, field_with}
use Rattle.sprintf.proofs.Digits.{all_digits, below_digit}
use Rattle.sprintf.proofs.Runs.{prefix_len-append}

-- ---- what the characters of a field's end are not

-- no flag, no digit and no `*`
abbrev pub opens : ℕ → Bool
opens c = not (is_flag c) && (not (is_ascii_digit c) && not (42 == c))

-- and no `.`
abbrev pub ends : ℕ → Bool
ends c = opens c && not (46 == c)

-- and no length modifier
abbrev pub is_plain : ℕ → Bool
is_plain c = ends c && not (has (codes "hlqLjzZt") c)

not_true : (b : Bool) → not b ≡ true → b ≡ false
not_true true e = sym e
not_true false e = refl

opens_flag : (c : ℕ) → opens c ≡ true → not (is_flag c) ≡ true
opens_flag c h = (and_parts _ _ h).0

opens_digit : (c : ℕ) → opens c ≡ true → is_ascii_digit c ≡ false
opens_digit c h = not_true _ (and_parts _ _ (and_parts _ _ h).1).0

opens_star : (c : ℕ) → opens c ≡ true → (42 == c) ≡ false
opens_star c h = not_true _ (and_parts _ _ (and_parts _ _ h).1).1

ends_opens : (c : ℕ) → ends c ≡ true → opens c ≡ true
ends_opens c h = (and_parts _ _ h).0

ends_dot : (c : ℕ) → ends c ≡ true → (46 == c) ≡ false
ends_dot c h = not_true _ (and_parts _ _ h).1

or_parts : (a b : Bool) → (a || b) ≡ false → (a ≡ false) × (b ≡ false)
or_parts true b e = cc
or_parts false b e = (refl, e)

lacks : (x c : ℕ) (xs : List ℕ) → has (x ∷ xs) c ≡ false → ((x == c) ≡ false) × (has xs c ≡ false)
lacks x c xs e = or_parts _ _ e

-- what holds of each of the characters holds of one that is among them
by_test : (P : ℕ → Type 0) (x c : ℕ) (b : Bool) → eqb x c ≡ b → P x → (b ≡ false → P c) → P c
by_test P x c true e here there = let same : x ≡ c = grind (arith, nat_tests) in subst P same here
by_test P x c false e here there = there refl

pub one_of : (P : ℕ → Type 0) (xs : List ℕ) → AllByRecursion P xs → (c : ℕ) → has xs c ≡ true → P c
one_of P [] all c h = cc
one_of P (x ∷ xs) all c h = by_test P x c (eqb x c) refl all.0 (λ e. one_of P xs all.1 c (rw e at h))

letter_plain : (t : ConversionType) → AllByRecursion (λ c. is_plain c ≡ true) (letters_of t)
letter_plain DecInt = (refl, (refl, (refl, tt)))
letter_plain OctInt = (refl, tt)
letter_plain HexIntLower = (refl, (refl, tt))
letter_plain HexIntUpper = (refl, tt)
letter_plain SciFloatLower = (refl, tt)
letter_plain SciFloatUpper = (refl, tt)
letter_plain DecFloatLower = (refl, tt)
letter_plain DecFloatUpper = (refl, tt)
letter_plain CompactFloatLower = (refl, tt)
letter_plain CompactFloatUpper = (refl, tt)
letter_plain Char = (refl, (refl, tt))
letter_plain String = (refl, (refl, tt))
letter_plain PercentSign = (refl, tt)

letter_means : (t : ConversionType) → AllByRecursion (λ c. conversion_of c ≡ Some t) (letters_of t)
letter_means DecInt = (refl, (refl, (refl, tt)))
letter_means OctInt = (refl, tt)
letter_means HexIntLower = (refl, (refl, tt))
letter_means HexIntUpper = (refl, tt)
letter_means SciFloatLower = (refl, tt)
letter_means SciFloatUpper = (refl, tt)
letter_means DecFloatLower = (refl, tt)
letter_means DecFloatUpper = (refl, tt)
letter_means CompactFloatLower = (refl, tt)
letter_means CompactFloatUpper = (refl, tt)
letter_means Char = (refl, (refl, tt))
letter_means String = (refl, (refl, tt))
letter_means PercentSign = (refl, tt)

-- what holds of each word holds of one that is among them
one_word : (P : List ℕ → Type 0) (xs : List (List ℕ)) → AllByRecursion P xs → (x : List ℕ) (k : ℕ) → k < length xs → get_or xs k x ≡ x → P x
one_word P [] all x k h e = absurd (omega arith)
one_word P (y ∷ ys) all x zero h e = subst P e all.0
one_word P (y ∷ ys) all x (suc k) h e = one_word P ys all.1 x k (omega arith) e

-- ---- runs

-- the text begins with a character that passes the test
abbrev pub Begins : (ℕ → Bool) → List ℕ → Type 0
Begins p text = (c : ℕ) × (rest : List ℕ) × (text ≡ c ∷ rest) × (p c ≡ true)

take_front : (xs ys : List ℕ) → take (length xs) (xs ++ ys) ≡ xs
take_front [] ys = refl
take_front (x ∷ xs) ys = ap (λ (l : List ℕ). x ∷ l) (take_front xs ys)

drop_front : (xs ys : List ℕ) → drop (length xs) (xs ++ ys) ≡ ys
drop_front [] ys = refl
drop_front (x ∷ xs) ys = drop_front xs ys

no_run : (p : ℕ → Bool) (text : List ℕ) (c : ℕ) (rest : List ℕ) → text ≡ c ∷ rest → p c ≡ false → prefix_len p text ≡ 0
no_run p text c rest e f = rw (e, f) refl

-- ---- a width or a precision

read_param-none : (text : List ℕ) → Begins opens text → read_param text ≡ Some (Literal (pos 0), text)
read_param-none text b = rw (b.2, opens_star b.0 b.3, opens_digit b.0 b.3) refl

read_count-is : (digits rest : List ℕ) (n : ℕ) → IsCount digits n → read_count digits rest ≡ Some (Literal (pos n), rest)
read_count-is digits rest n k = let limit : n ≤ 2147483647 = k.limit in rw k.value (grind (arith, nat_tests))

read_param-run : (d : ℕ) (text : List ℕ) (n : ℕ) → (42 == d) ≡ false → prefix_len is_ascii_digit (d ∷ text) ≡ n → read_param (d ∷ text) ≡ read_count (take n (d ∷ text)) (drop n (d ∷ text))
read_param-run d text n star e = rw (star, e) refl

digit_star : (d : ℕ) → is_ascii_digit d ≡ true → (42 == d) ≡ false
digit_star d h = grind (arith, nat_tests, common_steps)

read_param-digits : (digits text : List ℕ) (n : ℕ) → IsCount digits n → Begins opens text → read_param (digits ++ text) ≡ Some (Literal (pos n), text)
read_param-digits [] text n k b = absurd (omega (arith, k.only_digits.0))
read_param-digits (d ∷ ds) text n k b =
    let all : prefix_len is_ascii_digit (d ∷ ds) ≡ length (d ∷ ds) = all_digits (d ∷ ds) k.only_digits.1 in
    let end : prefix_len is_ascii_digit text ≡ 0 = no_run is_ascii_digit text b.0 b.1 b.2 (opens_digit b.0 b.3) in
    let run : prefix_len is_ascii_digit (d ∷ (ds ++ text)) ≡ length (d ∷ ds) = prefix_len-append is_ascii_digit (d ∷ ds) text all end in
    let star : (42 == d) ≡ false = digit_star d (below_digit d k.only_digits.1.0) in
    read_param-run d (ds ++ text) (length (d ∷ ds)) star run
    ∙ ap (λ (x : List ℕ). read_count x (drop (length (d ∷ ds)) (d ∷ (ds ++ text)))) (take_front (d ∷ ds) text)
    ∙ ap (λ (x : List ℕ). read_count (d ∷ ds) x) (drop_front (d ∷ ds) text)
    ∙ read_count-is (d ∷ ds) text n k

-- ---- the parts of a field

width_read : {width : List ℕ} {p : NumericParam} → IsWidth width p → (text : List ℕ) → Begins opens text → read_param (width ++ text) ≡ Some (p, text)
width_read no_width text b = read_param-none text b
width_read star_width text b = refl
width_read (digits_width {digits} {n} k h) text b = read_param-digits digits text n k b

digit_flag : (d : ℕ) → is_ascii_digit d ≡ true → d ≢ 48 → not (is_flag d) ≡ true
digit_flag d h k = grind (arith, nat_tests, common_steps)

digits_begin : (digits : List ℕ) (n : ℕ) → IsCount digits n → slice_index digits 0 ≢ 48 → (text : List ℕ) → Begins (λ c. not (is_flag c)) (digits ++ text)
digits_begin [] n k h text = absurd (omega (arith, k.only_digits.0))
digits_begin (d ∷ ds) n k h text = (d, ds ++ text, refl, digit_flag d (below_digit d k.only_digits.1.0) h)

width_begins : {width : List ℕ} {p : NumericParam} → IsWidth width p → (text : List ℕ) → Begins opens text → Begins (λ c. not (is_flag c)) (width ++ text)
width_begins no_width text b = (b.0, b.1, b.2, opens_flag b.0 b.3)
width_begins star_width text b = (42, text, refl, refl)
width_begins (digits_width {digits} {n} k h) text b = digits_begin digits n k h text

abbrev ReadsPrecision : ConversionType → NumericParam → List ℕ → List ℕ → Type 0
ReadsPrecision t p text rest = (o : Option NumericParam) × (read_precision text ≡ Some (o, rest)) × (precision_or_default o t ≡ p)

precision_read : {t : ConversionType} {precision : List ℕ} {p : NumericParam} → IsPrecision t precision p → (text : List ℕ) → Begins ends text → ReadsPrecision t p (precision ++ text) text
precision_read no_precision text b = (None, rw (b.2, ends_dot b.0 b.3) refl, refl)
precision_read bare_precision text b = (Some (Literal (pos 0)), rw (read_param-none text (b.0, b.1, b.2, ends_opens b.0 b.3)) refl, refl)
precision_read star_precision text b = (Some FromArgument, refl, refl)
precision_read (digits_precision {digits} {n} k) text b = (Some (Literal (pos n)), rw (read_param-digits digits text n k (b.0, b.1, b.2, ends_opens b.0 b.3)) refl, refl)

precision_begins : {t : ConversionType} {precision : List ℕ} {p : NumericParam} → IsPrecision t precision p → (text : List ℕ) → Begins ends text → Begins opens (precision ++ text)
precision_begins no_precision text b = (b.0, b.1, b.2, ends_opens b.0 b.3)
precision_begins bare_precision text b = (46, text, refl, refl)
precision_begins star_precision text b = (46, 42 ∷ text, refl, refl)
precision_begins (digits_precision {digits} k) text b = (46, digits ++ text, refl, refl)

module _ (t : ConversionType) (letter : ℕ) (rest : List ℕ) (is_letter : has (letters_of t) letter ≡ true) where
  plain : is_plain letter ≡ true
  plain = one_of (λ c. is_plain c ≡ true) (letters_of t) (letter_plain t) letter is_letter

  means : conversion_of letter ≡ Some t
  means = one_of (λ c. conversion_of c ≡ Some t) (letters_of t) (letter_means t) letter is_letter

  no_modifier : has (codes "hlqLjzZt") letter ≡ false
  no_modifier = not_true _ (and_parts _ _ plain).1

  after_h : has (codes "lqLjzZt") letter ≡ false
  after_h = (lacks 104 letter (codes "lqLjzZt") no_modifier).1

  after_l : has (codes "qLjzZt") letter ≡ false
  after_l = (lacks 108 letter (codes "qLjzZt") after_h).1

  after_q : has (codes "LjzZt") letter ≡ false
  after_q = (lacks 113 letter (codes "LjzZt") after_l).1

  after_upper_l : has (codes "jzZt") letter ≡ false
  after_upper_l = (lacks 76 letter (codes "jzZt") after_q).1

  after_j : has (codes "zZt") letter ≡ false
  after_j = (lacks 106 letter (codes "zZt") after_upper_l).1

  after_z : has (codes "Zt") letter ≡ false
  after_z = (lacks 122 letter (codes "Zt") after_j).1

  after_upper_z : has (codes "t") letter ≡ false
  after_upper_z = (lacks 90 letter (codes "t") after_z).1

  not_h : (104 == letter) ≡ false
  not_h = (lacks 104 letter (codes "lqLjzZt") no_modifier).0

  not_l : (108 == letter) ≡ false
  not_l = (lacks 108 letter (codes "qLjzZt") after_h).0

  not_q : (113 == letter) ≡ false
  not_q = (lacks 113 letter (codes "LjzZt") after_l).0

  not_upper_l : (76 == letter) ≡ false
  not_upper_l = (lacks 76 letter (codes "jzZt") after_q).0

  not_j : (106 == letter) ≡ false
  not_j = (lacks 106 letter (codes "zZt") after_upper_l).0

  not_z : (122 == letter) ≡ false
  not_z = (lacks 122 letter (codes "Zt") after_j).0

  not_upper_z : (90 == letter) ≡ false
  not_upper_z = (lacks 90 letter (codes "t") after_z).0

  not_t : (116 == letter) ≡ false
  not_t = (lacks 116 letter [] after_upper_z).0

  skips_none : skip_one length_modifiers (letter ∷ rest) ≡ letter ∷ rest
  skips_none = rw (not_h, not_l, not_q, not_upper_l, not_j, not_z, not_upper_z, not_t) refl

  skips_h : skip_one length_modifiers (104 ∷ letter ∷ rest) ≡ letter ∷ rest
  skips_h = rw (not_h) refl

  skips_l : skip_one length_modifiers (108 ∷ letter ∷ rest) ≡ letter ∷ rest
  skips_l = rw (not_l) refl

  skips_each : AllByRecursion (λ m. skip_one length_modifiers (m ++ letter ∷ rest) ≡ letter ∷ rest) length_modifiers
  skips_each = (refl, (skips_h, (refl, (skips_l, (refl, (refl, (refl, (refl, (refl, (refl, tt))))))))))

  modifier_skipped : (modifier : List ℕ) → (modifier ≡ []) ⊎ Contains length_modifiers modifier → skip_one length_modifiers (modifier ++ letter ∷ rest) ≡ letter ∷ rest
  modifier_skipped modifier (inl e) = rw e skips_none
  modifier_skipped modifier (inr k) = one_word (λ m. skip_one length_modifiers (m ++ letter ∷ rest) ≡ letter ∷ rest) length_modifiers skips_each modifier k.0 k.1 k.2

  begins_each : AllByRecursion (λ m. Begins ends (m ++ letter ∷ rest)) length_modifiers
  begins_each = ((104, 104 ∷ letter ∷ rest, refl, refl), ((104, letter ∷ rest, refl, refl), ((108, 108 ∷ letter ∷ rest, refl, refl), ((108, letter ∷ rest, refl, refl), ((113, letter ∷ rest, refl, refl), ((76, letter ∷ rest, refl, refl), ((106, letter ∷ rest, refl, refl), ((122, letter ∷ rest, refl, refl), ((90, letter ∷ rest, refl, refl), ((116, letter ∷ rest, refl, refl), tt))))))))))

  modifier_begins : (modifier : List ℕ) → (modifier ≡ []) ⊎ Contains length_modifiers modifier → Begins ends (modifier ++ letter ∷ rest)
  modifier_begins modifier (inl e) = rw e (letter, rest, refl, (and_parts _ _ plain).0)
  modifier_begins modifier (inr k) = one_word (λ m. Begins ends (m ++ letter ∷ rest)) length_modifiers begins_each modifier k.0 k.1 k.2

-- ---- the field

-- the parts of a field, one after another
pub read_field-steps : (text second third : List ℕ) (width : NumericParam) (precision : Option NumericParam) → read_param (drop (prefix_len is_flag text) text) ≡ Some (width, second) → read_precision second ≡ Some (precision, third) → read_field text ≡ read_letter (take (prefix_len is_flag text) text) width precision (skip_one length_modifiers third)
read_field-steps text second third width precision e f = rw (e, f) refl

flags_run : (flags text : List ℕ) → AllPass is_flag flags → Begins (λ c. not (is_flag c)) text → prefix_len is_flag (flags ++ text) ≡ length flags
flags_run flags text all b =
    prefix_len-append is_flag flags text (prefix_len_is is_flag flags (length flags) 0 (omega arith) (λ k h. all k 0 h) (λ h. absurd (omega arith))) (no_run is_flag text b.0 b.1 b.2 (not_true _ b.3))

same_field : (flags : List ℕ) (o : Option NumericParam) (letter : ℕ) (f : ConversionSpecifier) → f.alt_form ≡ (has flags 35 || (letter == 112)) → f.zero_pad ≡ has flags 48 → f.left_adj ≡ has flags 45 → f.space_sign ≡ has flags 32 → f.force_sign ≡ has flags 43 → precision_or_default o f.conversion_type ≡ f.precision → field_with flags f.width o letter f.conversion_type ≡ f
same_field flags o letter f a z l s p e = rw (← a, ← z, ← l, ← s, ← p, e) refl

-- what stands behind the `%` of a spelling
abbrev pub body_of : {text : List ℕ} {f : ConversionSpecifier} → IsField text f → List ℕ
body_of k = k.flags ++ k.width ++ k.precision ++ k.modifier ++ k.letter ∷ []

pub read_field-is : (text rest : List ℕ) (f : ConversionSpecifier) → (k : IsField text f) → read_field (body_of k ++ rest) ≡ Some (f, rest)
read_field-is text rest f k =
    let end : List ℕ = k.modifier ++ k.letter ∷ rest in
    let ends_so = modifier_begins f.conversion_type k.letter rest k.is_letter k.modifier k.is_modifier in
    let opens_so = precision_begins k.is_precision end ends_so in
    let text_is : body_of k ++ rest ≡ k.flags ++ (k.width ++ (k.precision ++ end)) = simp append_assoc in
    let run = flags_run k.flags (k.width ++ (k.precision ++ end)) k.only_flags (width_begins k.is_width (k.precision ++ end) opens_so) in
    let o = precision_read k.is_precision end ends_so in
    let front : List ℕ = k.flags ++ (k.width ++ (k.precision ++ end)) in
    let width : read_param (drop (prefix_len is_flag front) front) ≡ Some (f.width, k.precision ++ end) = rw (run, drop_front k.flags (k.width ++ (k.precision ++ end))) (width_read k.is_width (k.precision ++ end) opens_so) in
    let last : read_letter (take (prefix_len is_flag front) front) f.width o.0 (skip_one length_modifiers end) ≡ Some (f, rest) =
    rw (run, take_front k.flags (k.width ++ (k.precision ++ end)), modifier_skipped f.conversion_type k.letter rest k.is_letter k.modifier k.is_modifier, means f.conversion_type k.letter rest k.is_letter)
    (ap (λ (g : ConversionSpecifier). Some (g, rest)) (same_field k.flags o.0 k.letter f k.alt_form k.zero_pad k.left_adj k.space_sign k.force_sign o.2)) in
    ap read_field text_is ∙ read_field-steps front (k.precision ++ end) end f.width o.0 width o.1 ∙ last
